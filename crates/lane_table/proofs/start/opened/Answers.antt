use Rattle.std.proofs.Common.{ℕ, List, length, get_or, arith, ap, ◌∙◌}
use Rattle.lane_table.proofs.Starts.{full_at}
use Rattle.lane_table.proofs.Seats.{opens}
use Rattle.lane_table.proofs.start.opened.Goals as goal

pub new-requires : goal.new-requires
new-requires c = let w = c.as_slice.ensures in let f = c.in_ok-words.ensures in let s = c.in_ok-slots.ensures in let n : ℕ = c.args.key.now.buffers in
    opens _ _ _ (ap (λ (l : List ℕ). length l) w.value ∙ f.0) s.0
    (λ i lt. ap (λ (l : List ℕ). get_or l i 0) w.value ∙ f.1.0 i lt)
    (λ i le. ap (λ (l : List ℕ). get_or l i 0) w.value ∙ f.1.1 i le)
    (λ i lt. full_at c.args.key.now.bytes 0 i i c.in_ok-slots.slots.items s.1 (let e = s.0 in omega arith) (omega arith))
