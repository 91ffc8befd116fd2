-- the classes so far, and what is known by the frames so far
use Rattle.std.specs.Option.{option_map}
use Rattle.flow_key.specs.View.{plan_view}
use Rattle.flow_key.specs.Frames.{frames_of}
use Rattle.flow_key.proofs.Captures.{IsSoFar}
use Rattle.flow_key.proofs.classes.classify_all.Given as goal

abbrev pub invariant-loop-k : goal.invariant-loop-k
invariant-loop-k l = IsSoFar (option_map plan_view l.fn.nat) (frames_of l.capture) l.k l.classifier l.classes.items
