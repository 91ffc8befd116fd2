-- The classes of the code as those of the definitions.
use Rattle.brick_spec.specs.Flow as flow
use Rattle.brick_base.specs.declared.flow.Dir.{Dir}
use Rattle.brick_base.specs.declared.flow.Dir.TheVariants.{Forward, Reversed}
use Rattle.brick_base.specs.declared.flow.Ends.{Ends}
use Rattle.brick_base.specs.declared.flow.Class.{Class}

abbrev pub dir_view : Dir → flow.Direction
dir_view Forward = flow.Forward
dir_view Reversed = flow.Reversed

abbrev pub ends_view : Ends → flow.Ends
ends_view e = record { src = e.src; sport = e.sport; dst = e.dst; dport = e.dport }

-- the flow of a record of this class
abbrev pub flow_of : Class → flow.Flow
flow_of c = record {
  number = c.flow;
  opened = c.opened;
  rank = c.rank;
  hash = c.hash;
  first = ends_view c.first;
  other = c.other;
}

abbrev pub class_view : Class → flow.Class
class_view c = record { flow = flow_of c; dir = dir_view c.dir }
