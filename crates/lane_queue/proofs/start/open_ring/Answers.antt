use Rattle.std.proofs.Common.{refl}
use Rattle.lane_queue.specs.Seats.{about_of}
use Rattle.lane_queue.proofs.start.open_ring.Goals as goal

pub returns-clause-sender : goal.returns-clause-sender
returns-clause-sender c = record { pass = c.split_ring.ensures.passes.0; about = about_of c.args.lane.now c.args.w; of_lane = record { buffers = refl; bytes = refl; share = refl; capture = refl }; knows = c.split_ring.ensures.views.0 }

pub returns-clause-getter : goal.returns-clause-getter
returns-clause-getter c = record { pass = c.split_ring.ensures.passes.1; about = about_of c.args.lane.now c.args.w; of_lane = record { buffers = refl; bytes = refl; share = refl; capture = refl }; knows = c.split_ring.ensures.views.1 }
