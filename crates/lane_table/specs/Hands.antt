-- The two views that a split leaves.
use Rattle.std.specs.Prelude.{List, [], ◌∷◌, ℕ}
use Rattle.lane_table.specs.declared.view.SeatView.{SeatView}

abbrev pub head_of : List ℕ → List ℕ
head_of [] = []
head_of (x ∷ xs) = x ∷ []

abbrev pub tail_of : List ℕ → List ℕ
tail_of [] = []
tail_of (x ∷ xs) = xs

abbrev pub with_roles : List ℕ → SeatView → SeatView
with_roles roles v = record {
  roles = roles;
  held = [];
  out = [];
  claimed = [];
  sent = v.sent;
  received = v.received;
  ends = v.ends;
  ended = v.ended;
  found = v.found;
  empty = v.empty;
  about = v.about;
}

abbrev pub first_role : SeatView → SeatView
first_role v = with_roles (head_of v.roles) v

abbrev pub later_roles : SeatView → SeatView
later_roles v = with_roles (tail_of v.roles) v
