use Rattle.std.proofs.Common.{◌≡◌, ◌*◌, max, List}
use Rattle.brick_spec.specs.Stream.{StreamSegment}
use Rattle.window_stream.specs.StreamModel.{StandsFor}
use Rattle.stream_scan.specs.Searched.{SearchedTo}
use Rattle.stream_scan.proofs.scan.search_on.Given as goal

abbrev pub invariant-windows : goal.invariant-windows
invariant-windows l = record {
  searched : l.search.searched ≡ max l.initial.search.searched (l.j * 1460);
  needle : l.search.needle ≡ l.initial.search.needle;
  goes_on : (segments : List StreamSegment) → StandsFor l.stream segments → SearchedTo l.initial.search segments l.stream.reach → SearchedTo l.search segments l.stream.reach;
}
