-- What a path stands for is what its stages make.
use Rattle.std.specs.Prelude.{List, [], Some, None, Bool}
use Rattle.batch_ops.specs.Operator.{Meaning}
use Rattle.batch_ops.specs.Maybe.{maybe}
use Rattle.batch_ops.specs.Stage.{MeansStages}
use Rattle.batch_ops.specs.Then.{in_turn}
use Rattle.batch_ops.specs.Treat.{Kind, RowHolds, held_by, stages_at, in_row}
use Rattle.batch_ops.proofs.Calls.{same_order}
use Rattle.batch_ops.proofs.Stages.{row_of_rows}
use Rattle.batch_ops.proofs.Treats.{row_means}
use Rattle.stage_path.specs.Path.{path}

pub row_law : {S T : Type 0} (k : Kind S) (stages : T → List S) (failed : T → Bool)
    → MeansStages (in_row k stages failed)
row_law k stages failed t flow came left was = row_means k (stages t) flow came left was

pub then_law : {A B T : Type 0} (a : Meaning A) (b : Meaning B) (first : T → A) (second : T → B) (failed : T → Bool)
    → MeansStages a → MeansStages b → MeansStages (in_turn a b first second failed)
then_law a b first second failed one two t flow came left was =
    row_of_rows a.stands b.stands (first t) (second t) flow (a.row (first t) flow) (b.row (second t) flow)
    (one (first t) flow) (two (second t) flow) came left was

pub maybe_law : {O : Type 0} (m : Meaning O) → MeansStages m → MeansStages (maybe m)
maybe_law m one None flow came left was = (was.0, same_order left.dropped [] was.1)
maybe_law m one (Some o) flow came left was = one o flow came left was

pub path_law : {S B T : Type 0} (k : Kind S) (m : Meaning B) (stages : T → List S) (behind : T → B) (failed : T → Bool)
    → MeansStages m → MeansStages (path k m stages behind failed)
path_law k m stages behind failed two t flow came left was =
    row_of_rows (RowHolds (held_by k)) m.stands (stages t) (behind t) flow (stages_at k (stages t) flow)
    (m.row (behind t) flow) (row_means k (stages t) flow) (two (behind t) flow) came left was
