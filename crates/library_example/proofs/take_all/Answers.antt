use Rattle.std.specs.Prelude.{None}
use Rattle.library_example.proofs.Classes.{many_classes}
use Rattle.library_example.proofs.take_all.Goals as goal

pub loop-number-init : goal.loop-number-init
loop-number-init g c =
    (many_classes None c.args.capture.now _ c.in_ok-classes.ensures, c.count-number-end.ensures, c.in_ok-out.ensures.empty, c.requires.ready, c.requires.spares, c.requires.room)
