-- What a kit of lanes on queues keeps.
use Rattle.std.specs.Prelude.{ℕ, List, map}
use Rattle.lane_spec.specs.LaneBook.{LaneBook}
use Rattle.lane_core.specs.View.{book_view}
use Rattle.lane_queue.specs.declared.kit.QueueKit.{QueueKit}

-- the Books of the lanes that were shut, in order
abbrev pub books_of : QueueKit → List LaneBook
books_of k = map book_view k.books.items

-- how many lanes were started and not shut
abbrev pub open_lanes_of : QueueKit → ℕ
open_lanes_of k = k.open_lanes
