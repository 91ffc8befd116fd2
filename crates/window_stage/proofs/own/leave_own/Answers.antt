use Rattle.std.proofs.Common.{◌≡◌, ◌∙◌, ap, sym, refl, Bool, [], ◌∷◌, Option, map}
use Rattle.std.specs.Option.{option_to_list}
use Rattle.brick_spec.specs.Item.{Item}
use Rattle.brick_spec.specs.FlowStage.{FlowItem}
use Rattle.brick_base.specs.Flow.{dir_view}
use Rattle.brick_spec.specs.PacketizedWindow.{bare_item}
use Rattle.packet_owner.specs.Packet.{packet_item}
use Rattle.flow_spec.specs.Window.{own_by}
use Rattle.window_stage.specs.Own.{item_in}
use Rattle.window_stage.specs.Emission.{only_passed}
use Rattle.window_stage.proofs.Stepping.{moves_own, bare_key}
use Rattle.window_stage.proofs.own.leave_own.Goals as goal

pub returns-then-fields : goal.returns-then-fields
returns-then-fields c =
    let e = c.bare.ensures.item in
    let to_items : Item → FlowItem = λ (i : Item). record { dir = dir_view c.args.dir; item = i } in
    let left : map to_items (option_to_list (bare_item (packet_item c.args.p))) ≡ to_items (packet_item c.bare.result) ∷ [] =
    ap (λ (o : Option Item). map to_items (option_to_list o)) e in
    let key = bare_key (packet_item c.args.p) (packet_item c.bare.result) e in
    record {
      added = only_passed (record { dir = c.args.dir; packet = c.bare.result } ∷ []);
      moves = moves_own 0 c.args.p c.args.out.now c.pass.new.self _ (λ i. record { a = key.0 i; j = key.1 i; buffer = record { slot = c.bare.ensures.slot i; room = c.bare.ensures.room i } } ∷ []) c.pass.ensures.grows c.pass.ensures.spare;
      left_is = λ i. record { passed = (sym (ap (λ (b : Bool). own_by b (item_in c.args.dir c.args.p)) c.if-fields.true ∙ left)) i; dropped = [] };
      none = refl;
    }

pub returns : goal.returns
returns c = record {
  added = record { passed = []; dropped = []; consumed = c.args.p ∷ [] };
  moves = moves_own 0 c.args.p c.args.out.now c.consume.new.self _ refl c.consume.ensures.grows c.consume.ensures.spare;
  left_is = λ i. record { passed = (sym (ap (λ (b : Bool). own_by b (item_in c.args.dir c.args.p)) c.if-fields.false)) i; dropped = [] };
  none = refl;
}
