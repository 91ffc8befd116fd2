-- One lane's turn at a worker: what is received, what is given back, and what the work stands for then.
use Rattle.std.proofs.Common.{◌≡◌, ℕ, ◌+◌, ◌<◌, Bool, true, false, nat_eq, List, [], ◌∷◌, ◌++◌, map, sym, refl, ap, ◌∙◌, subst, arith, lt-ltb, inl, inr, append_assoc, append-nil, Option}
use Rattle.std.specs.Prelude.{All}
use Rattle.std.specs.List.{sum_by}
use Rattle.std.specs.List.Sorted.{IsPermutation}
use Rattle.std.proofs.lemmas.Bool.Decides.{eqb_tells}
use Rattle.std.proofs.lemmas.List.{map-append}
use Rattle.std.proofs.lemmas.List.Sums.{sum_by-cons}
use Rattle.std.proofs.lemmas.List.Sorted.{IsPermutation-map, All-permutation, sum_by-IsPermutation}
use Rattle.std.proofs.lemmas.List.Elements.{All-nil, All-push, All-map}
use Rattle.brick_spec.specs.Item.{item_of}
use Rattle.brick_base.specs.Flow.{class_view}
use Rattle.brick_base.specs.declared.flow.Class.{Class}
use Rattle.packet_owner.specs.Buffer.{BufferModel}
use Rattle.packet_owner.specs.Packet.{PacketModel}
use Rattle.batch_ops.specs.declared.batch.Work.{Work}
use Rattle.flow_work.specs.Buffers.{work_buffer, is_own}
use Rattle.flow_work.proofs.Logs.{all_more}
use Rattle.lane_spec.specs.Counts.{one_if, times, without}
use Rattle.lane_spec.specs.Pairs.{Pair}
use Rattle.lane_core.specs.Seats.{WorkerFacts, WorkerBecomes, IsRecord, with_packet, with_nothing, with_end}
use Rattle.lane_core.proofs.Counting.{times_here, times_else, times_without, times_without_else}
use Rattle.run_spec.specs.Books.{Job}
use Rattle.flow_spec.specs.Answer.{ClassedItem}
use Rattle.work_core.specs.Classed.{classed}
use Rattle.work_crew.specs.Records.{class_in, record_in, records_of}
use Rattle.work_crew.specs.Worked.{HasWorked, pair_of, slot_of, HasGathered, HasGivenBack}
use Rattle.work_crew.proofs.Jobs.{entry_is}

-- RECEIVING

module _ (job : Job) (bytes : ℕ) (old : WorkerFacts) where
  pub gathered_none : old.held ≡ [] → old.ended ≡ false → HasGathered job bytes old old [] false
  gathered_none none_held going = record {
    received = sym (append-nil old.received);
    held = none_held;
    place = refl;
    ended = going;
    rooms = All-nil (λ (w : Work). w.packet.room ≡ bytes);
    records = refl;
    own = tt;
  }

  module _ (f : WorkerFacts) (works : List Work) (h : HasGathered job bytes old f works false) (new : WorkerFacts) where
    pub gathered_nothing : WorkerBecomes (with_nothing f) new → HasGathered job bytes old new works false
    gathered_nothing s = record {
      received = ap (λ x. x.received) s.same ∙ h.received;
      held = ap (λ x. x.held) s.same ∙ h.held;
      place = ap (λ x. x.place) s.same ∙ h.place;
      ended = ap (λ x. x.ended) s.same ∙ h.ended;
      rooms = h.rooms;
      records = h.records;
      own = h.own;
    }

    pub gathered_end : WorkerBecomes (with_end f) new → HasGathered job bytes old new works true
    gathered_end s = record {
      received = ap (λ x. x.received) s.same ∙ h.received;
      held = ap (λ x. x.held) s.same ∙ h.held;
      place = ap (λ x. x.place) s.same ∙ h.place;
      ended = ap (λ x. x.ended) s.same;
      rooms = h.rooms;
      records = h.records;
      own = h.own;
    }

    pub gathered_more : (p : PacketModel) (class : Class) → p.room ≡ bytes → IsRecord job.capture p.a p → p.slot < 1024 → class_view class ≡ class_in job p.a → WorkerBecomes (with_packet p.slot p.a f) new
        → HasGathered job bytes old new (works ++ record { class = class; packet = p } ∷ []) false
    gathered_more p class room is below class_is s = let w : Work = record { class = class; packet = p } in
        let pairs : map pair_of (works ++ w ∷ []) ≡ map pair_of works ++ pair_of w ∷ [] = map-append pair_of works (w ∷ []) in
        let here : classed w ≡ record_in job p.a = λ j. record { class = class_is j; item = (is.2 ∙ ap (item_of p.a) (sym (entry_is job.capture p.a is.0 is.1))) j } in record {
          received = ap (λ x. x.received) s.same ∙ ap (λ l. l ++ (p.slot, p.a) ∷ []) h.received ∙ append_assoc old.received (map pair_of works) ((p.slot, p.a) ∷ []) ∙ ap (λ l. old.received ++ l) (sym pairs);
          held = ap (λ x. x.held) s.same ∙ ap (λ l. l ++ p.slot ∷ []) h.held ∙ sym (map-append slot_of works (w ∷ []));
          place = ap (λ x. x.place) s.same ∙ h.place;
          ended = ap (λ x. x.ended) s.same ∙ h.ended;
          rooms = All-push (λ (x : Work). x.packet.room ≡ bytes) works w h.rooms room;
          records = map-append classed works (w ∷ []) ∙ (λ j. h.records j ++ here j ∷ []) ∙ sym (map-append (λ (q : Pair). record_in job q.1) (map pair_of works) (pair_of w ∷ [])) ∙ ap (records_of job) (sym pairs);
          own = all_more (λ (x : Work). is_own (work_buffer x) ≡ true) (λ (x : Work). is_own (work_buffer x) ≡ true) (λ x t. t) works w h.own (lt-ltb p.slot 1024 below);
        }

-- GIVING BACK

pub none_held : (held : List ℕ) → ((i : ℕ) → times i [] ≡ times i held) → held ≡ []
none_held [] same = refl
none_held (x ∷ held) same = absurd (let e = same x in let t = times_here x held in omega arith)

pub one_less : (slot : ℕ) (slots held : List ℕ) → ((i : ℕ) → times i (slot ∷ slots) ≡ times i held) → (i : ℕ) → times i slots ≡ times i (without slot held)
one_less slot slots held same i = let has : 0 < times slot held = let e = same slot in let t = times_here slot slots in omega arith in elim (eqb_tells i slot) [
  | inl h ↦ subst (λ k. times k slots ≡ times k (without slot held)) (sym h.1) (let e = same slot in let t = times_here slot slots in let w = times_without slot held has in omega arith)
  | inr h ↦ let e = same i in let t = times_else slot i slots (λ d. h.1 (sym d)) in let w = times_without_else slot i held h.1 in omega arith
]

pub holds_it : (slot : ℕ) (slots held : List ℕ) → ((i : ℕ) → times i (slot ∷ slots) ≡ times i held) → 0 < times slot held
holds_it slot slots held same = let e = same slot in let t = times_here slot slots in omega arith

times_sum : (i : ℕ) (xs : List ℕ) → times i xs ≡ sum_by (λ x. one_if (nat_eq x i)) xs
times_sum i [] = refl
times_sum i (x ∷ xs) = let r = times_sum i xs in ap (λ n. one_if (nat_eq x i) + n) r ∙ sym (sum_by-cons (λ y. one_if (nat_eq y i)) x xs)

same_times : (i : ℕ) (xs ys : List ℕ) → IsPermutation xs ys → times i xs ≡ times i ys
same_times i xs ys perm = times_sum i xs ∙ sym (sum_by-IsPermutation (λ x. one_if (nat_eq x i)) xs ys perm) ∙ sym (times_sum i ys)

slots_are : (works : List Work) → map (λ (b : BufferModel). b.slot) (map work_buffer works) ≡ map slot_of works
slots_are [] = refl
slots_are (w ∷ works) = ap (λ l. w.packet.slot ∷ l) (slots_are works)

pub slots_back : (returned : List BufferModel) (works : List Work) (held : List ℕ) → IsPermutation (map work_buffer works) returned → held ≡ map slot_of works → (i : ℕ) → times i (map (λ (b : BufferModel). b.slot) returned) ≡ times i held
slots_back returned works held perm is i =
    sym (same_times i (map (λ (b : BufferModel). b.slot) (map work_buffer works)) (map (λ (b : BufferModel). b.slot) returned) (IsPermutation-map (λ (b : BufferModel). b.slot) (map work_buffer works) returned perm))
    ∙ ap (times i) (slots_are works ∙ sym is)

pub rooms_back : (bytes : ℕ) (returned : List BufferModel) (works : List Work) → IsPermutation (map work_buffer works) returned → All (λ (w : Work). w.packet.room ≡ bytes) works → All (λ (b : BufferModel). b.room ≡ bytes) returned
rooms_back bytes returned works perm rooms = All-permutation (λ (b : BufferModel). b.room ≡ bytes) (map work_buffer works) returned perm
    (All-map (λ (b : BufferModel). b.room ≡ bytes) work_buffer works rooms)

-- THE WORK

not_failed : (a b : Bool) → (a ≡ true → b ≡ true) → b ≡ false → a ≡ false
not_failed true b h e = absurd (let t = h refl in let c : true ≡ false = sym t ∙ e in cc)
not_failed false b h e = refl

module _ {W : Type 0} (ready : W → Type 0) (stands : W → List ClassedItem → Type 0) (ended : W → Option ℕ) (broken : W → Bool) (job : Job) (bytes : ℕ) where
  pub worked_on : (old mid new : WorkerFacts) (works : List Work) (took_end : Bool) (before after : W) → HasWorked ready stands ended broken job old before → HasGathered job bytes old mid works took_end → HasGivenBack mid new
      → ready after → (broken after ≡ false → (list : List ClassedItem) → stands before list → stands after (list ++ map classed works)) → ended after ≡ ended before → (broken before ≡ true → broken after ≡ true)
      → HasWorked ready stands ended broken job new after
  worked_on old mid new works took_end before after h g b usable goes same_end stays =
      let log : new.received ≡ old.received ++ map pair_of works = b.received ∙ g.received in
      let list : records_of job old.received ++ map classed works ≡ records_of job new.received =
      ap (λ l. records_of job old.received ++ l) g.records ∙ sym (map-append (λ (q : Pair). record_in job q.1) old.received (map pair_of works)) ∙ ap (records_of job) (sym log) in record {
        held = b.held;
        usable = usable;
        means = λ works_on. subst (stands after) list (goes works_on (records_of job old.received) (h.means (not_failed (broken before) (broken after) stays works_on)));
        open_work = same_end ∙ h.open_work;
      }
