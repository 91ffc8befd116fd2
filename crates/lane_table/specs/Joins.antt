-- One view of two seats.
use Rattle.std.specs.Prelude.{ℕ, ◌+◌, ◌==◌, Bool, cond, not, ◌++◌, map, length}
use Rattle.lane_spec.specs.Counts.{times}
use Rattle.lane_table.specs.declared.view.SeatView.{SeatView}
use Rattle.lane_core.specs.Seats.{log_of}
use Rattle.lane_table.specs.Rule.{numbers_from, mark_at}

-- whether the seat has the role of worker y
abbrev pub works : SeatView → ℕ → Bool
works v y = not (times (y + 1) v.roles == 0)

-- ring by ring, what the one knows that has the worker's role
abbrev pub joined : SeatView → SeatView → SeatView
joined v w = record {
  roles = w.roles ++ v.roles;
  held = w.held ++ v.held;
  out = v.out;
  claimed = w.claimed ++ v.claimed;
  sent = v.sent;
  received =
      map (λ y. cond (works w y) (log_of w.received y) (log_of v.received y)) (numbers_from 0 (length v.received));
  ends = v.ends;
  ended = map (λ y. cond (works w y) (mark_at w.ended y) (mark_at v.ended y)) (numbers_from 0 (length v.ended));
  found = v.found;
  empty = v.empty;
  about = v.about;
}
