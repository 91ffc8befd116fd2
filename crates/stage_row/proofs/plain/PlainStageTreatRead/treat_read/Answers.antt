use Rattle.std.proofs.Common.{refl}
use Rattle.stage_row.specs.declared.plain.PlainStage.TheVariants.{Parsed, Ttl, Tos, Only, Firewall, Route, Nat, Balance, Scan}
use Rattle.stage_row.specs.Plain.{plain_kind}
use Rattle.stage_row.proofs.Variants.{treats_as}
use Rattle.stage_row.proofs.plain.PlainStageTreatRead.treat_read.Goals as goal

pub returns-in-Parsed-clause-treats : goal.returns-in-Parsed-clause-treats
returns-in-Parsed-clause-treats c =
    treats_as _ plain_kind (λ s. Parsed s) (record { stage = λ s. refl; fits = λ s flow items h. h; fitted = λ s flow items h. h; failed = λ s. refl }) c.args.self.now c.in-Parsed.stage c.treat_read.new.self c.args.class.now c.args.packet.now.packet _ c.in-Parsed.is c.treat_read.ensures.treats

pub returns-in-Ttl-clause-treats : goal.returns-in-Ttl-clause-treats
returns-in-Ttl-clause-treats c =
    treats_as _ plain_kind (λ s. Ttl s) (record { stage = λ s. refl; fits = λ s flow items h. h; fitted = λ s flow items h. h; failed = λ s. refl }) c.args.self.now c.in-Ttl.stage c.treat_read-in-Ttl.new.self c.args.class.now c.args.packet.now.packet _ c.in-Ttl.is c.treat_read-in-Ttl.ensures.treats

pub returns-in-Tos-clause-treats : goal.returns-in-Tos-clause-treats
returns-in-Tos-clause-treats c =
    treats_as _ plain_kind (λ s. Tos s) (record { stage = λ s. refl; fits = λ s flow items h. h; fitted = λ s flow items h. h; failed = λ s. refl }) c.args.self.now c.in-Tos.stage c.treat_read-in-Tos.new.self c.args.class.now c.args.packet.now.packet _ c.in-Tos.is c.treat_read-in-Tos.ensures.treats

pub returns-in-Only-clause-treats : goal.returns-in-Only-clause-treats
returns-in-Only-clause-treats c =
    treats_as _ plain_kind (λ s. Only s) (record { stage = λ s. refl; fits = λ s flow items h. h; fitted = λ s flow items h. h; failed = λ s. refl }) c.args.self.now c.in-Only.stage c.treat_read-in-Only.new.self c.args.class.now c.args.packet.now.packet _ c.in-Only.is c.treat_read-in-Only.ensures.treats

pub returns-in-Firewall-clause-treats : goal.returns-in-Firewall-clause-treats
returns-in-Firewall-clause-treats c =
    treats_as _ plain_kind (λ s. Firewall s) (record { stage = λ s. refl; fits = λ s flow items h. h; fitted = λ s flow items h. h; failed = λ s. refl }) c.args.self.now c.in-Firewall.stage c.treat_read-in-Firewall.new.self c.args.class.now c.args.packet.now.packet _ c.in-Firewall.is c.treat_read-in-Firewall.ensures.treats

pub returns-in-Route-clause-treats : goal.returns-in-Route-clause-treats
returns-in-Route-clause-treats c =
    treats_as _ plain_kind (λ s. Route s) (record { stage = λ s. refl; fits = λ s flow items h. h; fitted = λ s flow items h. h; failed = λ s. refl }) c.args.self.now c.in-Route.stage c.treat_read-in-Route.new.self c.args.class.now c.args.packet.now.packet _ c.in-Route.is c.treat_read-in-Route.ensures.treats

pub returns-in-Nat-clause-treats : goal.returns-in-Nat-clause-treats
returns-in-Nat-clause-treats c =
    treats_as _ plain_kind (λ s. Nat s) (record { stage = λ s. refl; fits = λ s flow items h. h; fitted = λ s flow items h. h; failed = λ s. refl }) c.args.self.now c.in-Nat.stage c.treat_read-in-Nat.new.self c.args.class.now c.args.packet.now.packet _ c.in-Nat.is c.treat_read-in-Nat.ensures.treats

pub returns-in-Balance-clause-treats : goal.returns-in-Balance-clause-treats
returns-in-Balance-clause-treats c =
    treats_as _ plain_kind (λ s. Balance s) (record { stage = λ s. refl; fits = λ s flow items h. h; fitted = λ s flow items h. h; failed = λ s. refl }) c.args.self.now c.in-Balance.stage c.treat_read-in-Balance.new.self c.args.class.now c.args.packet.now.packet _ c.in-Balance.is c.treat_read-in-Balance.ensures.treats

pub returns-in-Scan-clause-treats : goal.returns-in-Scan-clause-treats
returns-in-Scan-clause-treats c =
    treats_as _ plain_kind (λ s. Scan s) (record { stage = λ s. refl; fits = λ s flow items h. h; fitted = λ s flow items h. h; failed = λ s. refl }) c.args.self.now c.in-Scan.stage c.treat_read-in-Scan.new.self c.args.class.now c.args.packet.now.packet _ c.in-Scan.is c.treat_read-in-Scan.ensures.treats
