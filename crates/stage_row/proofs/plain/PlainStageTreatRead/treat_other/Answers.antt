use Rattle.std.proofs.Common.{refl}
use Rattle.stage_row.specs.declared.plain.PlainStage.TheVariants.{Parsed, Ttl, Tos, Only, Firewall, Route, Nat, Balance, Scan}
use Rattle.stage_row.specs.Plain.{plain_kind}
use Rattle.stage_row.proofs.Variants.{treats_as}
use Rattle.stage_row.proofs.plain.PlainStageTreatRead.treat_other.Goals as goal

pub returns-in-Parsed : goal.returns-in-Parsed
returns-in-Parsed c =
    treats_as _ plain_kind (λ s. Parsed s) (record { stage = λ s. refl; fits = λ s flow items h. h; fitted = λ s flow items h. h; failed = λ s. refl }) c.args.self.now c.in-Parsed.stage c.treat_other.new.self c.args.class.now c.args.packet.now _ c.in-Parsed.is c.treat_other.ensures

pub returns-in-Ttl : goal.returns-in-Ttl
returns-in-Ttl c =
    treats_as _ plain_kind (λ s. Ttl s) (record { stage = λ s. refl; fits = λ s flow items h. h; fitted = λ s flow items h. h; failed = λ s. refl }) c.args.self.now c.in-Ttl.stage c.treat_other-in-Ttl.new.self c.args.class.now c.args.packet.now _ c.in-Ttl.is c.treat_other-in-Ttl.ensures

pub returns-in-Tos : goal.returns-in-Tos
returns-in-Tos c =
    treats_as _ plain_kind (λ s. Tos s) (record { stage = λ s. refl; fits = λ s flow items h. h; fitted = λ s flow items h. h; failed = λ s. refl }) c.args.self.now c.in-Tos.stage c.treat_other-in-Tos.new.self c.args.class.now c.args.packet.now _ c.in-Tos.is c.treat_other-in-Tos.ensures

pub returns-in-Only : goal.returns-in-Only
returns-in-Only c =
    treats_as _ plain_kind (λ s. Only s) (record { stage = λ s. refl; fits = λ s flow items h. h; fitted = λ s flow items h. h; failed = λ s. refl }) c.args.self.now c.in-Only.stage c.treat_other-in-Only.new.self c.args.class.now c.args.packet.now _ c.in-Only.is c.treat_other-in-Only.ensures

pub returns-in-Firewall : goal.returns-in-Firewall
returns-in-Firewall c =
    treats_as _ plain_kind (λ s. Firewall s) (record { stage = λ s. refl; fits = λ s flow items h. h; fitted = λ s flow items h. h; failed = λ s. refl }) c.args.self.now c.in-Firewall.stage c.treat_other-in-Firewall.new.self c.args.class.now c.args.packet.now _ c.in-Firewall.is c.treat_other-in-Firewall.ensures

pub returns-in-Route : goal.returns-in-Route
returns-in-Route c =
    treats_as _ plain_kind (λ s. Route s) (record { stage = λ s. refl; fits = λ s flow items h. h; fitted = λ s flow items h. h; failed = λ s. refl }) c.args.self.now c.in-Route.stage c.treat_other-in-Route.new.self c.args.class.now c.args.packet.now _ c.in-Route.is c.treat_other-in-Route.ensures

pub returns-in-Nat : goal.returns-in-Nat
returns-in-Nat c =
    treats_as _ plain_kind (λ s. Nat s) (record { stage = λ s. refl; fits = λ s flow items h. h; fitted = λ s flow items h. h; failed = λ s. refl }) c.args.self.now c.in-Nat.stage c.treat_other-in-Nat.new.self c.args.class.now c.args.packet.now _ c.in-Nat.is c.treat_other-in-Nat.ensures

pub returns-in-Balance : goal.returns-in-Balance
returns-in-Balance c =
    treats_as _ plain_kind (λ s. Balance s) (record { stage = λ s. refl; fits = λ s flow items h. h; fitted = λ s flow items h. h; failed = λ s. refl }) c.args.self.now c.in-Balance.stage c.treat_other-in-Balance.new.self c.args.class.now c.args.packet.now _ c.in-Balance.is c.treat_other-in-Balance.ensures

pub returns-in-Scan : goal.returns-in-Scan
returns-in-Scan c =
    treats_as _ plain_kind (λ s. Scan s) (record { stage = λ s. refl; fits = λ s flow items h. h; fitted = λ s flow items h. h; failed = λ s. refl }) c.args.self.now c.in-Scan.stage c.treat_other-in-Scan.new.self c.args.class.now c.args.packet.now _ c.in-Scan.is c.treat_other-in-Scan.ensures
