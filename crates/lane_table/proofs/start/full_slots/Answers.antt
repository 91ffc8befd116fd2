use Rattle.std.proofs.Common.{◌∷◌, [], length, arith, sym, ap, ◌∙◌, subst, length-append}
use Rattle.packet_owner.specs.Buffer.{BufferModel}
use Rattle.lane_table.specs.declared.view.Stored.TheVariants.{Free}
use Rattle.lane_table.specs.Starts.{IsFullFrom}
use Rattle.lane_table.proofs.Starts.{full_last}
use Rattle.lane_table.proofs.start.full_slots.Goals as goal

pub loop-i-preserved : goal.loop-i-preserved
loop-i-preserved c = let e = c.in_ok-push.ensures.items in let v = c.loop-i.invariant in let b = c.in_ok-buffer.buffer in let more = length-append c.loop-i.slots.items (Free b ∷ []) in record {
  count = ap (λ l. length l) e ∙ omega arith;
  full = subst (IsFullFrom c.args.bytes 0) (sym e)
      (full_last c.args.bytes 0 c.loop-i.i c.loop-i.slots.items b v.full (omega arith) (ap (λ (x : BufferModel). x.slot) c.in_ok-buffer.ensures) (ap (λ (x : BufferModel). x.room) c.in_ok-buffer.ensures));
}
