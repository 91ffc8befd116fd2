use Rattle.std.proofs.Common.{List, Option, map, option_map, refl, ap, sym, ◌∙◌}
use Rattle.brick_spec.specs.GroupOutput as spec
use Rattle.tcp_udp.specs.MatchView.{match_view}
use Rattle.tcp_udp.specs.declared.matching.Match.{Match}
use Rattle.group_merge.proofs.groups.Groups.pick.Goals as goal

pub returns-then-takes_all : goal.returns-then-takes_all
returns-then-takes_all c =
    let groups = ap (λ (ms : List (Option Match)). map (option_map match_view) ms) c.deref.ensures.value ∙ c.self.view_is in
    sym (c.if-takes_all.ensures refl c.args.frame.now) ∙ ap (λ ms. spec.group_of ms c.args.frame.now) groups
