use Rattle.std.specs.Prelude.{Some}
use Rattle.lane_queue.specs.Seats.{about_of}
use Rattle.lane_queue.proofs.start.open_ring.Given as goal

abbrev pub ghosts-split_ring : goal.ghosts-split_ring
ghosts-split_ring a = record { about = Some (about_of a.lane.now a.w) }
