-- What the passes of a ring may do, and what they become.
use Rattle.std.proofs.Common.{◌≡◌, ℕ, ◌<◌, Bool, true, false, List, [], ◌∷◌, ◌++◌, length, get_or, set, sym, ap, ◌∙◌, subst, arith, Option}
use Rattle.std.proofs.lemmas.List.Elements.{All-get_or}
use Rattle.crossbeam_queue.specs.Passes.{Pass, view, IsSamePass}
use Rattle.crossbeam_queue.specs.declared.array_queue.Doing.{Doing}
use Rattle.crossbeam_queue.specs.declared.array_queue.Slotted.{Slotted}
use Rattle.brick_spec.specs.Capture.{Contents}
use Rattle.packet_owner.specs.Packet.{PacketModel}
use Rattle.lane_spec.specs.Pairs.{Pair, AreBelow}
use Rattle.lane_core.specs.Seats.{LaneFacts, IsRecord, AreAllBelow, log_of}
use Rattle.lane_queue.specs.declared.ring_rule.RingAbout.{RingAbout}
use Rattle.lane_queue.specs.declared.ring_rule.Item.{Item}
use Rattle.lane_queue.specs.declared.ring_rule.Item.TheVariants.{Packet, End}
use Rattle.lane_queue.specs.declared.ring_rule.RingView.{RingView}
use Rattle.lane_queue.specs.RingRule.{ring_view, pair_of, MayPut, MaySend, Sends, MayGet, Gets}
use Rattle.std.specs.Prelude.{slice_get, Some}
use Rattle.lane_queue.specs.Lists.{Each}
use Rattle.lane_queue.specs.Seats.{IsSender, IsGetter}
use Rattle.lane_queue.proofs.Lists.{each_set}
use Rattle.lane_queue.proofs.Sums.{log_here, log_else}

-- one ring's log grows
pub senders_put : {Q A : Type 0} (lane : LaneFacts) (put : Bool) (sent more : List (List Pair)) (w : ℕ) (log : List Pair) (qs : List (Slotted (Option Item) (Doing Item RingView) Q A)) (ps : List (Pass Item RingView))
    (q : Slotted (Option Item) (Doing Item RingView) Q A) (p : Pass Item RingView) → w < length sent → more ≡ set sent w log → slice_get qs w ≡ Some q → IsSender lane w log put q p
    → Each (λ k a b. IsSender lane k (log_of sent k) put a b) qs ps → Each (λ k a b. IsSender lane k (log_of more k) put a b) qs (set ps w p)
senders_put lane put sent more w log qs ps q p lt is there new all = each_set (λ k a b. IsSender lane k (log_of sent k) put a b) (λ k a b. IsSender lane k (log_of more k) put a b) qs ps w q p there
    (subst (λ (l : List Pair). IsSender lane w l put q p) (sym (ap (λ (m : List (List Pair)). log_of m w) is ∙ log_here w log sent lt)) new)
    (λ k a b ne h. subst (λ (l : List Pair). IsSender lane k l put a b) (sym (ap (λ (m : List (List Pair)). log_of m k) is ∙ log_else w k log sent ne)) h)
    all

module _ {Q A : Type 0} (lane : LaneFacts) (w : ℕ) (q : Slotted (Option Item) (Doing Item RingView) Q A) (p : Pass Item RingView) where
  pub may_put : (sent : List (List Pair)) (put : Bool) (x : PacketModel) → IsSender lane w (log_of sent w) put q p → put ≡ false → x.room ≡ lane.bytes → x.slot < lane.buffers → IsRecord lane.capture x.a x
      → AreAllBelow x.a sent → w < length sent → length (log_of sent w) < get_or lane.shares w 0 → MayPut (view p) x
  may_put sent put x s going room slot rec below lt share = let k = s.knows in record {
    sends = ap (λ (v : RingView). v.sends) k;
    going = ap (λ (v : RingView). v.put) k ∙ going;
    about = s.about;
    knows = ap (λ (v : RingView). v.about) k;
    fits = record { room = room ∙ sym s.of_lane.bytes; slot = let b = s.of_lane.buffers in omega arith; of_capture = subst (λ (c : Contents). IsRecord c x.a x) (sym s.of_lane.capture) rec };
    above = subst (λ (v : RingView). AreBelow x.a v.sent) (sym k) (All-get_or (AreBelow x.a) sent w [] lt below);
    share = let l = ap (λ (v : RingView). length v.sent) k in let b = s.of_lane.share in omega arith;
  }

  pub may_end : (sent : List Pair) (put : Bool) → IsSender lane w sent put q p → put ≡ false → MaySend (view p) End
  may_end sent put s going = let k = s.knows in (s.about, ap (λ (v : RingView). v.about) k, ap (λ (v : RingView). v.sends) k, ap (λ (v : RingView). v.put) k ∙ going)

  pub sender_put : (sent : List Pair) (put : Bool) (x : PacketModel) (p' : Pass Item RingView) → IsSender lane w sent put q p → IsSamePass p p' → Sends (view p) (Packet x) (view p') → IsSender lane w (sent ++ pair_of x ∷ []) put q p'
  sender_put sent put x p' s same e = record {
    pass = (same.0 ∙ s.pass.0, same.2 ∙ s.pass.1);
    about = s.about;
    of_lane = s.of_lane;
    knows = e ∙ ap (λ (v : RingView). ring_view v.sends v.gets (v.sent ++ pair_of x ∷ []) v.got v.put v.taken v.about) s.knows;
  }

  pub sender_ends : (sent : List Pair) (put : Bool) (p' : Pass Item RingView) → IsSender lane w sent put q p → IsSamePass p p' → Sends (view p) End (view p') → IsSender lane w sent true q p'
  sender_ends sent put p' s same e = record {
    pass = (same.0 ∙ s.pass.0, same.2 ∙ s.pass.1);
    about = s.about;
    of_lane = s.of_lane;
    knows = e ∙ ap (λ (v : RingView). ring_view v.sends v.gets v.sent v.got true v.taken v.about) s.knows;
  }

  pub may_get : (got : List Pair) (taken : Bool) → IsGetter lane w got taken q p → taken ≡ false → MayGet (view p)
  may_get got taken s going = let k = s.knows in (s.about, ap (λ (v : RingView). v.about) k, ap (λ (v : RingView). v.gets) k, ap (λ (v : RingView). v.taken) k ∙ going)

  pub getter_stays : (got : List Pair) (taken : Bool) (p' : Pass Item RingView) → IsGetter lane w got taken q p → IsSamePass p p' → view p' ≡ view p → IsGetter lane w got taken q p'
  getter_stays got taken p' s same e = record { pass = (same.0 ∙ s.pass.0, same.2 ∙ s.pass.1); about = s.about; of_lane = s.of_lane; knows = e ∙ s.knows }

  pub getter_got : (got : List Pair) (taken : Bool) (x : PacketModel) (p' : Pass Item RingView) → IsGetter lane w got taken q p → IsSamePass p p' → Gets (view p) (Packet x) (view p') → IsGetter lane w (got ++ pair_of x ∷ []) taken q p'
  getter_got got taken x p' s same e = record {
    pass = (same.0 ∙ s.pass.0, same.2 ∙ s.pass.1);
    about = s.about;
    of_lane = s.of_lane;
    knows = e.view ∙ ap (λ (v : RingView). ring_view v.sends v.gets v.sent (v.got ++ pair_of x ∷ []) v.put v.taken v.about) s.knows;
  }

  pub getter_ends : (got : List Pair) (taken : Bool) (p' : Pass Item RingView) → IsGetter lane w got taken q p → IsSamePass p p' → Gets (view p) End (view p') → IsGetter lane w got true q p'
  getter_ends got taken p' s same e = record {
    pass = (same.0 ∙ s.pass.0, same.2 ∙ s.pass.1);
    about = s.about;
    of_lane = s.of_lane;
    knows = e ∙ ap (λ (v : RingView). ring_view v.sends v.gets v.sent v.got v.put true v.about) s.knows;
  }

  -- what is known of a packet that was got
  pub record IsGot (got : List Pair) (x : PacketModel) : Type 0 where
    pub room : x.room ≡ lane.bytes
    pub slot : x.slot < lane.buffers
    pub of_capture : IsRecord lane.capture x.a x
    pub above : AreBelow x.a got
    pub share : length got < get_or lane.shares w 0

  pub is_got : (got : List Pair) (taken : Bool) (x : PacketModel) (v' : RingView) → IsGetter lane w got taken q p → Gets (view p) (Packet x) v' → IsGot got x
  is_got got taken x v' s e = let k = s.knows in let same : e.about ≡ s.about = some_about e.about s.about (sym e.knows ∙ ap (λ (v : RingView). v.about) k) in record {
    room = e.fits.room ∙ ap (λ (a : RingAbout). a.bytes) same ∙ s.of_lane.bytes;
    slot = let f = e.fits.slot in let a = ap (λ (a : RingAbout). a.buffers) same in let b = s.of_lane.buffers in omega arith;
    of_capture = subst (λ (c : Contents). IsRecord c x.a x) (ap (λ (a : RingAbout). a.capture.value) same ∙ s.of_lane.capture) e.fits.of_capture;
    above = subst (λ (v : RingView). AreBelow x.a v.got) k e.above;
    share = let f = e.share in let a = ap (λ (a : RingAbout). a.share) same in let b = s.of_lane.share in let l = ap (λ (v : RingView). length v.got) k in omega arith;
  } where
    some_about : (x y : RingAbout) → Rattle.std.specs.Prelude.Some x ≡ Rattle.std.specs.Prelude.Some y → x ≡ y
    some_about x y e = cc
