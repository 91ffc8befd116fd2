use Rattle.std.proofs.Common.{◌≡◌, None, [], List, map, sym, subst}
use Rattle.std.proofs.Math.ListN.{replicate}
use Rattle.std.specs.Global.{Vec}
use Rattle.lpm_fw.specs.Parts.{ArePlaces, rows_in, list_at}
use Rattle.lpm_fw.proofs.Places.{places_none, rows_none}
use Rattle.lpm_fw.proofs.parts.Parts.new.Goals as goal

pub invariant_of-result : goal.invariant_of-result
invariant_of-result c = subst (ArePlaces (replicate 256 None)) (sym c.new.ensures.items) places_none

pub returns : goal.returns
returns c part = subst (λ (lists : List (Vec _)). rows_in (map (list_at lists) (replicate 256 None)) part ≡ []) (sym c.new.ensures.items) (rows_none part)
