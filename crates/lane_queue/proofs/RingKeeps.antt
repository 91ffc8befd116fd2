-- Each step on a ring's queue keeps its rule.
use Rattle.std.proofs.Common.{◌≡◌, ◌≢◌, ℕ, zero, suc, ◌<◌, Bool, true, false, true≢false, List, [], ◌∷◌, ◌++◌, map, length, set, sym, refl, ap, ◌∙◌, subst, inl, inr, ⊎_elim, arith, append_assoc, append-nil, length-append, Option, Some, None}
use mathlib.Core.Option.{some, some-injective, some-ne-none}
use mathlib.Core.List.{map-append}
use lib.ListN.{get_elem?}
use Rattle.crossbeam_queue.specs.Fifo.{Pushes, Pops, Forks, Merges, Learns}
use Rattle.atomic_table.proofs.Lists.{at_set}
use Rattle.std.proofs.lemmas.List.Elements.{All-nil, All-head, All-tail, All-cons}
use Rattle.packet_owner.specs.Packet.{PacketModel as Pack}
use Rattle.lane_spec.specs.Pairs.{Pair, AreBelow, AreRising}
use Rattle.lane_core.proofs.Moves.{rising_more}
use Rattle.lane_queue.specs.declared.ring_rule.RingAbout.{RingAbout}
use Rattle.lane_queue.specs.declared.ring_rule.Item.{Item}
use Rattle.lane_queue.specs.declared.ring_rule.Item.TheVariants.{Packet, End}
use Rattle.lane_queue.specs.declared.ring_rule.RingView.{RingView}
use Rattle.lane_queue.specs.RingRule.{ring_view, first_view, spent, first_sender, first_getter, both_halves, pair_of, FitsRing, AllFit, tail_of, Stands, OpenRing, NewRing, Ring, MayPut, MaySend, Sends, MayGet, Gets, IsDone}

-- VIEWS

each : (P : ℕ → RingView → Type 0) (views : List RingView) (id : ℕ) (w : RingView) → P id w → ((k : ℕ) (u : RingView) → k ≢ id → get_elem? views k ≡ some u → P k u)
    → (k : ℕ) (u : RingView) → get_elem? (set views id w) k ≡ some u → P k u
each P views id w mine others k u e = ⊎_elim (λ (x : (k ≡ id) × (w ≡ u)). subst (λ (y : ℕ × RingView). P y.0 y.1) (λ i. (sym x.0 i, x.1 i)) mine) (λ (x : (k ≢ id) × (get_elem? views k ≡ some u)). others k u x.0 x.1) (at_set views id k w u e)

about_none : (a : RingAbout) → None ≡ Some a → ⊥
about_none a e = cc

some_about : (x y : RingAbout) → Some x ≡ Some y → x ≡ y
some_about x y e = cc

-- the one view that there is
only : (views : List RingView) (w : RingView) (id : ℕ) (v : RingView) → views ≡ w ∷ [] → get_elem? views id ≡ some v → (id ≡ 0) × (w ≡ v)
only views w id v is at = pick id (ap (λ l. get_elem? l id) (sym is) ∙ at) where
  pick : (id : ℕ) → get_elem? (w ∷ []) id ≡ some v → (id ≡ 0) × (w ≡ v)
  pick zero e = (refl, some-injective w v e)
  pick (suc id) e = absurd (some-ne-none v (sym e))

-- a view that knows what the ring is made with shows that the ring is shared
opened : (items : List Item) (views : List RingView) (id : ℕ) (v : RingView) (a : RingAbout) → v.about ≡ Some a → get_elem? views id ≡ some v → Ring items views → OpenRing items views
opened items views id v a knows at h = ⊎_elim (λ (s : NewRing items views). absurd (about_none a (ap (λ (y : RingView). y.about) (only views first_view id v s.1 at).1 ∙ knows))) (λ o. o) h

-- LISTS

next_above : (got : List Pair) (q : Pair) (rest : List Pair) → AreRising (got ++ q ∷ rest) → AreBelow q.1 got
next_above [] q rest r = All-nil (λ (p : Pair). p.1 < q.1)
next_above (p ∷ ps) q rest r = All-cons (λ (x : Pair). x.1 < q.1) p ps (after ps r.0) (next_above ps q rest r.1) where
  after : (qs : List Pair) → Rattle.std.specs.Prelude.All (λ (x : Pair). p.1 < x.1) (qs ++ q ∷ rest) → p.1 < q.1
  after [] h = All-head (λ (x : Pair). p.1 < x.1) q rest h
  after (x ∷ xs) h = after xs (All-tail (λ (x : Pair). p.1 < x.1) x (xs ++ q ∷ rest) h)

fit_last : (a : RingAbout) (ps : List Pack) (p : Pack) → AllFit a ps → FitsRing a p → AllFit a (ps ++ p ∷ [])
fit_last a [] p h f = (f, tt)
fit_last a (q ∷ qs) p h f = (h.0, fit_last a qs p h.1 f)

no_tail : (put taken : Bool) → put ≡ false → tail_of put taken ≡ []
no_tail true taken e = absurd (true≢false e)
no_tail false taken e = refl

off : (b : Bool) → b ≢ true → b ≡ false
off true not = absurd (not refl)
off false not = refl

-- THE START

pub begins : Ring [] (first_view ∷ [])
begins = inl (refl, refl)

two_views : (P : ℕ → RingView → Type 0) (l r : RingView) → P 0 l → P 1 r → (k : ℕ) (u : RingView) → get_elem? (l ∷ r ∷ []) k ≡ some u → P k u
two_views P l r a b zero u e = subst (P 0) (some-injective l u e) a
two_views P l r a b (suc zero) u e = subst (P 1) (some-injective r u e) b
two_views P l r a b (suc (suc k)) u e = absurd (some-ne-none u (sym e))

-- the worker gets its pass
pub opens : (id : ℕ) (v : RingView) (about : Option RingAbout) (a : RingAbout) → about ≡ Some a → v ≡ first_view → Forks Ring id v (first_sender about) (first_getter about)
opens id v about a is new items views h at = let l : RingView = first_sender about in let r : RingView = first_getter about in ⊎_elim
    (λ (s : NewRing items views). let here = only views first_view id v s.1 at in
    subst (λ (z : List Item × List RingView). Ring z.0 z.1) (λ j. (sym s.0 j, set (sym s.1 j) (sym here.0 j) l ++ r ∷ [])) (inr record {
      about = a;
      sender = 0;
      getter = 1;
      sent = [];
      got = [];
      put = false;
      taken = false;
      packets = [];
      items_are = refl;
      order = refl;
      rising = tt;
      share = omega arith;
      fit = tt;
      done = λ t. absurd (true≢false (sym t));
      stands = two_views (Stands 0 1 [] [] false false a) l r
          record { sends = λ _. (refl, refl, refl, is); gets = λ g. absurd (true≢false (sym g)) }
          record { sends = λ t. absurd (true≢false (sym t)); gets = λ _. (refl, refl, refl, is) };
    }))
    (λ (o : OpenRing items views). absurd (about_none o.about (sym (ap (λ (y : RingView). y.about) new) ∙ ((o.stands id v at).sends (ap (λ (y : RingView). y.sends) new)).3)))
    h

-- PUTS

puts_packet : (n id : ℕ) (v : RingView) (p : Pack) → MayPut v p → Pushes Ring n id v (Packet p) (Sends v (Packet p))
puts_packet n id v p m items views _ h at = let o = opened items views id v m.about m.knows at h in let w : RingView = ring_view v.sends v.gets (v.sent ++ pair_of p ∷ []) v.got v.put v.taken v.about in
    let mine = o.stands id v at in let me = mine.sends m.sends in let same : m.about ≡ o.about = some_about m.about o.about (sym m.knows ∙ me.3) in
    let quiet : o.put ≡ false = sym me.2 ∙ m.going in (
      w,
      inr record {
        about = o.about;
        sender = o.sender;
        getter = o.getter;
        sent = o.sent ++ pair_of p ∷ [];
        got = o.got;
        put = o.put;
        taken = o.taken;
        packets = o.packets ++ p ∷ [];
        items_are = ap (λ l. l ++ Packet p ∷ []) (o.items_are ∙ ap (λ t. map Packet o.packets ++ t) (no_tail o.put o.taken quiet) ∙ append-nil (map Packet o.packets))
            ∙ sym (map-append Packet o.packets (p ∷ [])) ∙ sym (ap (λ t. map Packet (o.packets ++ p ∷ []) ++ t) (no_tail o.put o.taken quiet) ∙ append-nil (map Packet (o.packets ++ p ∷ [])));
        order = ap (λ l. l ++ pair_of p ∷ []) o.order ∙ append_assoc o.got (map pair_of o.packets) (pair_of p ∷ []) ∙ ap (λ l. o.got ++ l) (sym (map-append pair_of o.packets (p ∷ [])));
        rising = rising_more o.sent p.slot p.a o.rising (subst (AreBelow p.a) me.1 m.above);
        share = let l = length-append o.sent (pair_of p ∷ []) in let e = ap (λ (l : List Pair). length l) me.1 in let s = ap (λ (x : RingAbout). x.share) same in let lt = m.share in omega arith;
        fit = fit_last o.about o.packets p o.fit (subst (λ (x : RingAbout). FitsRing x p) same m.fits);
        done = λ t. absurd (true≢false (sym (o.done t).0 ∙ quiet));
        stands = each (Stands o.sender o.getter (o.sent ++ pair_of p ∷ []) o.got o.put o.taken o.about) views id w
            record { sends = λ s. (me.0, ap (λ l. l ++ pair_of p ∷ []) me.1, me.2, me.3); gets = mine.gets }
            (λ k u ne e. let s = o.stands k u e in record { sends = λ t. absurd (ne ((s.sends t).0 ∙ sym me.0)); gets = s.gets });
      },
      refl,
    )

end_last : (taken : Bool) (items : List Item) (packets : List Pack) (put : Bool) → put ≡ false → taken ≡ false → items ≡ map Packet packets ++ tail_of put taken → items ++ End ∷ [] ≡ map Packet packets ++ tail_of true taken
end_last taken items packets put quiet open_ is = ap (λ l. l ++ End ∷ []) (is ∙ ap (λ t. map Packet packets ++ t) (no_tail put taken quiet) ∙ append-nil (map Packet packets)) ∙ sym (ap (λ b. map Packet packets ++ tail_of true b) open_)

puts_end : (n id : ℕ) (v : RingView) (a : RingAbout) → v.about ≡ Some a → v.sends ≡ true → v.put ≡ false → Pushes Ring n id v End (Sends v End)
puts_end n id v a knows may going items views _ h at = let o = opened items views id v a knows at h in let w : RingView = ring_view v.sends v.gets v.sent v.got true v.taken v.about in
    let mine = o.stands id v at in let me = mine.sends may in let quiet : o.put ≡ false = sym me.2 ∙ going in
    let open_ : o.taken ≡ false = off o.taken (λ t. absurd (true≢false (sym (o.done t).0 ∙ quiet))) in (
      w,
      inr record {
        about = o.about;
        sender = o.sender;
        getter = o.getter;
        sent = o.sent;
        got = o.got;
        put = true;
        taken = o.taken;
        packets = o.packets;
        items_are = end_last o.taken items o.packets o.put quiet open_ o.items_are;
        order = o.order;
        rising = o.rising;
        share = o.share;
        fit = o.fit;
        done = λ t. (refl, (o.done t).1);
        stands = each (Stands o.sender o.getter o.sent o.got true o.taken o.about) views id w
            record { sends = λ s. (me.0, me.1, refl, me.3); gets = mine.gets }
            (λ k u ne e. let s = o.stands k u e in record { sends = λ t. absurd (ne ((s.sends t).0 ∙ sym me.0)); gets = s.gets });
      },
      refl,
    )

pub sends : (n id : ℕ) (v : RingView) (x : Item) → MaySend v x → Pushes Ring n id v x (Sends v x)
sends n id v (Packet p) may = puts_packet n id v p may
sends n id v End may = puts_end n id v may.0 may.1 may.2 may.3

-- GETS

abbrev Pop : Item → List Item → List RingView → ℕ → RingView → Type 0
Pop x items views id v = (w : RingView) × Ring items (set views id w) × Gets v x w

gets_sent : (id : ℕ) (v : RingView) (a : RingAbout) → v.about ≡ Some a → v.gets ≡ true → v.taken ≡ false → Pops Ring id v (Gets v)
gets_sent id v a knows may going x items views h at = let o = opened (x ∷ items) views id v a knows at h in taken_from o o.packets refl where
  end_first : (put taken : Bool) → x ∷ items ≡ tail_of put taken → (x ≡ End) × (items ≡ []) × (put ≡ true) × (taken ≡ false)
  end_first true true e = absurd (cc)
  end_first true false e = let a : x ≡ End = cc in let b : items ≡ [] = cc in (a, b, refl, refl)
  end_first false taken e = absurd (cc)

  taken_from : (o : OpenRing (x ∷ items) views) (ps : List Pack) → o.packets ≡ ps → Pop x items views id v
  taken_from o [] none = let t = end_first o.put o.taken (o.items_are ∙ ap (λ l. map Packet l ++ tail_of o.put o.taken) none) in let mine = o.stands id v at in let me = mine.gets may in
      let w : RingView = ring_view v.sends v.gets v.sent v.got v.put true v.about in
      subst (λ (y : Item). Pop y items views id v) (sym t.0) (
        w,
        inr record {
          about = o.about;
          sender = o.sender;
          getter = o.getter;
          sent = o.sent;
          got = o.got;
          put = o.put;
          taken = true;
          packets = [];
          items_are = t.1 ∙ sym (ap (λ b. tail_of b true) t.2);
          order = o.order ∙ ap (λ l. o.got ++ map pair_of l) none;
          rising = o.rising;
          share = o.share;
          fit = tt;
          done = λ _. (t.2, refl);
          stands = each (Stands o.sender o.getter o.sent o.got o.put true o.about) views id w
              record { sends = mine.sends; gets = λ g. (me.0, me.1, refl, me.3) }
              (λ k u ne e. let s = o.stands k u e in record { sends = s.sends; gets = λ g. absurd (ne ((s.gets g).0 ∙ sym me.0)) });
        },
        refl,
      )
  taken_from o (p ∷ ps) is = let all : x ∷ items ≡ Packet p ∷ (map Packet ps ++ tail_of o.put o.taken) = o.items_are ∙ ap (λ l. map Packet l ++ tail_of o.put o.taken) is in
      let first : x ≡ Packet p = cc in let later : items ≡ map Packet ps ++ tail_of o.put o.taken = cc in let mine = o.stands id v at in let me = mine.gets may in
      let w : RingView = ring_view v.sends v.gets v.sent (v.got ++ pair_of p ∷ []) v.put v.taken v.about in
      let order : o.sent ≡ o.got ++ pair_of p ∷ map pair_of ps = o.order ∙ ap (λ l. o.got ++ map pair_of l) is in let fit : AllFit o.about (p ∷ ps) = subst (AllFit o.about) is o.fit in
      subst (λ (y : Item). Pop y items views id v) (sym first) (
        w,
        inr record {
          about = o.about;
          sender = o.sender;
          getter = o.getter;
          sent = o.sent;
          got = o.got ++ pair_of p ∷ [];
          put = o.put;
          taken = o.taken;
          packets = ps;
          items_are = later;
          order = order ∙ sym (append_assoc o.got (pair_of p ∷ []) (map pair_of ps));
          rising = o.rising;
          share = o.share;
          fit = fit.1;
          done = λ t. absurd (let n : p ∷ ps ≡ [] = sym is ∙ (o.done t).1 in cc);
          stands = each (Stands o.sender o.getter o.sent (o.got ++ pair_of p ∷ []) o.put o.taken o.about) views id w
              record { sends = mine.sends; gets = λ g. (me.0, ap (λ l. l ++ pair_of p ∷ []) me.1, me.2, me.3) }
              (λ k u ne e. let s = o.stands k u e in record { sends = s.sends; gets = λ g. absurd (ne ((s.gets g).0 ∙ sym me.0)) });
        },
        record {
          view = refl;
          above = subst (AreBelow p.a) (sym me.1) (next_above o.got (pair_of p) (map pair_of ps) (subst AreRising order o.rising));
          about = o.about;
          knows = me.3;
          fits = fit.0;
          share = let l = length-append o.got (pair_of p ∷ map pair_of ps) in let e = ap (λ (l : List Pair). length l) order in let g = ap (λ (l : List Pair). length l) me.1 in let s = o.share in omega arith;
        },
      )

pub gets : (id : ℕ) (v : RingView) → MayGet v → Pops Ring id v (Gets v)
gets id v may = gets_sent id v may.0 may.1 may.2 may.3

-- PASSES

pub merges : (id : ℕ) (v : RingView) (other : ℕ) (u : RingView) (about : RingAbout) → v.about ≡ Some about → v.sends ≡ true → u.gets ≡ true → Merges Ring id v other u (both_halves v u) spent
merges id v other u about knows a b items views h at two at' = let o = opened items views id v about knows at h in let both : RingView = both_halves v u in let mine = o.stands id v at in let vs : List RingView = set views id both in
    let was : get_elem? views other ≡ some u = ⊎_elim (λ x. absurd (two x.0)) (λ x. x.1) (at_set views id other both u at') in let theirs = (o.stands other u was).gets b in
    let S : ℕ → RingView → Type 0 = Stands o.sender id o.sent o.got o.put o.taken o.about in
    let now : (j : ℕ) (y : RingView) → get_elem? vs j ≡ some y → j ≢ other → S j y = each (λ j y. j ≢ other → S j y) views id both
    (λ _. record { sends = λ _. mine.sends a; gets = λ _. (refl, theirs.1, theirs.2, (mine.sends a).3) })
    (λ j y _ e apart. let s = o.stands j y e in record { sends = s.sends; gets = λ g. absurd (apart ((s.gets g).0 ∙ sym theirs.0)) }) in
    inr record {
      about = o.about;
      sender = o.sender;
      getter = id;
      sent = o.sent;
      got = o.got;
      put = o.put;
      taken = o.taken;
      packets = o.packets;
      items_are = o.items_are;
      order = o.order;
      rising = o.rising;
      share = o.share;
      fit = o.fit;
      done = o.done;
      stands = each S vs other spent record { sends = λ s. absurd (true≢false (sym s)); gets = λ g. absurd (true≢false (sym g)) } (λ j y apart e. now j y e apart);
    }

pub dones : (id : ℕ) (v : RingView) (about : RingAbout) → v.about ≡ Some about → v.sends ≡ true → v.gets ≡ true → Learns Ring id v (IsDone v)
dones id v about knows a b items views h at t = let o = opened items views id v about knows at h in let mine = o.stands id v at in let s = mine.sends a in let g = mine.gets b in
    s.1 ∙ o.order ∙ ap (λ (l : List Pack). o.got ++ map pair_of l) (o.done (sym g.2 ∙ t)).1 ∙ append-nil o.got ∙ sym g.1
