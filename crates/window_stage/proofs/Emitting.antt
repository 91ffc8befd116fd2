-- Packets that are passed in spare buffers, one after another.
use Rattle.std.proofs.Common.{◌≡◌, ℕ, zero, suc, ◌+◌, ◌-◌, ◌*◌, ◌%◌, ◌^◌, ◌≤◌, List, [], ◌∷◌, ◌++◌, map, length, nat_eq, true, false, ◌<◌, Option, unwrap_or, refl, ap, sym, subst, ◌∙◌, arith, append-nil, length-append, lit≤, vec_len, vec_capacity, if◌then◌else◌}
use Rattle.std.proofs.lemmas.List.{map-append}
use Rattle.std.proofs.lemmas.List.Sorted.{IsPermutation-refl, IsPermutation-append_comm, length_permutation}
use Rattle.std.proofs.lemmas.Bool.Decides.{nat_tests}
use Rattle.std.specs.List.{AllByRecursion}
use Rattle.std.specs.List.Sorted.{IsPermutation}
use Rattle.brick_spec.specs.Flow.{Direction}
use Rattle.brick_spec.specs.FlowStage.{FlowItem}
use Rattle.brick_spec.specs.PacketizedWindow as spec
use Rattle.brick_spec.specs.PacketizedWindow.{emitted_item}
use Rattle.packetize.specs.View.{template_view}
use Rattle.packetize.specs.declared.templates.Template.{Template}
use Rattle.brick_spec.specs.Stream.{Reassembly, ready_of, bytes_of}
use Rattle.brick_base.specs.Flow.{dir_view}
use Rattle.brick_base.specs.declared.flow.Dir.{Dir}
use Rattle.packet_owner.specs.Buffer.{BufferModel}
use Rattle.packet_owner.specs.Packet.{PacketModel, packet_item}
use Rattle.packet_owner.specs.Spare.{SpareModel}
use Rattle.batch_ops.specs.declared.outlet.Outlet.{Outlet}
use Rattle.batch_ops.specs.Outlet.{Grows, KeyedBuffer, buffer_of, keyed, passed_item}
use Rattle.batch_ops.proofs.Calls.{takes_none, moves_both, how_many}
use Rattle.batch_ops.proofs.Feeding.{all_of_both}
use Rattle.flow_spec.specs.Window.{windows_from, emitted_from, rest_of}
use Rattle.window_stage.specs.Emission.{Emitted, emitted, only_passed}

-- NONE, ONE, AND MORE

pub emitted_none : (most first : ℕ) (says : List FlowItem → Type 0) (out : Outlet) → says [] → Emitted most first says out out
emitted_none most first says out h = record {
  made = [];
  moves = record {
    slots = [];
    grows = record { passed = sym (append-nil out.passed.items); dropped = sym (append-nil out.dropped.items); consumed = sym (append-nil out.consumed.items); passed_room = omega arith; dropped_room = omega arith; consumed_room = omega arith };
    takes = takes_none out.spare;
    few = omega arith;
    made = [];
    spare = refl;
    each = IsPermutation-refl [];
  };
  keys = tt;
  items = h;
}

-- a buffer was taken, and a packet that lies in it was passed
pub emitted_one : (first : ℕ) (says : List FlowItem → Type 0) (dir : Dir) (b : BufferModel) (p : PacketModel) (spare : SpareModel) (out mid out' : Outlet)
    → b.room ≡ out.spare.bytes → out.spare ≡ record spare { free = spare.free ++ b.slot ∷ [] } → buffer_of p ≡ b → first ≤ p.j
    → Grows mid out' (only_passed (record { dir = dir; packet = p } ∷ [])) → mid.passed ≡ out.passed → mid.dropped ≡ out.dropped → mid.consumed ≡ out.consumed → out'.spare ≡ spare
    → says (record { dir = dir_view dir; item = packet_item p } ∷ [])
    → Emitted 1 first says out out'
emitted_one first says dir b p spare out mid out' room taken lies place grows same_p same_d same_c left h = record {
  made = record { dir = dir; packet = p } ∷ [];
  moves = record {
    slots = b.slot ∷ [];
    grows = record {
      passed = grows.passed ∙ ap (λ v. v.items ++ record { dir = dir; packet = p } ∷ []) same_p;
      dropped = grows.dropped ∙ ap (λ v. v.items ++ []) same_d;
      consumed = grows.consumed ∙ ap (λ v. v.items ++ []) same_c;
      passed_room = let k = grows.passed_room in let e = ap vec_capacity same_p in omega arith;
      dropped_room = let k = grows.dropped_room in let e = ap vec_capacity same_d in omega arith;
      consumed_room = let k = grows.consumed_room in let e = ap vec_capacity same_c in omega arith;
    };
    takes = record {
      free = subst (λ (s : SpareModel). IsPermutation s.free (b.slot ∷ out'.spare.free)) (sym taken)
          (subst (λ (s : SpareModel). IsPermutation (spare.free ++ b.slot ∷ []) (b.slot ∷ s.free)) (sym left) (IsPermutation-append_comm spare.free (b.slot ∷ [])));
      count = ap (λ (s : SpareModel). s.count) left ∙ sym (ap (λ (s : SpareModel). s.count) taken);
      bytes = ap (λ (s : SpareModel). s.bytes) left ∙ sym (ap (λ (s : SpareModel). s.bytes) taken);
    };
    few = lit≤ tt;
    made = keyed p ∷ [];
    spare = ap (λ (x : BufferModel). x ∷ []) (lies ∙ (λ i. record { slot = b.slot; room = room i }));
    each = IsPermutation-refl (keyed p ∷ []);
  };
  keys = (place, tt);
  items = h;
}

-- places that are not below one are not below a lower one
pub keys_above : (first second : ℕ) → first ≤ second → (ks : List KeyedBuffer) → AllByRecursion (λ (k : KeyedBuffer). second ≤ k.j) ks → AllByRecursion (λ (k : KeyedBuffer). first ≤ k.j) ks
keys_above first second less [] h = tt
keys_above first second less (k ∷ ks) h = (let a = h.0 in omega arith, keys_above first second less ks h.1)

-- one emission after another
pub emitted_more : (n k first second : ℕ) (P Q R : List FlowItem → Type 0) (out mid out' : Outlet) → first ≤ second → Emitted n first P out mid → Emitted k second Q mid out' → ((xs ys : List FlowItem) → P xs → Q ys → R (xs ++ ys)) → Emitted (n + k) first R out out'
unfolding moves_both
emitted_more n k first second P Q R out mid out' less one two join = record {
  made = one.made ++ two.made;
  moves = moves_both [] [] n k out mid out' (only_passed one.made) (only_passed two.made) one.moves two.moves;
  keys = all_of_both (λ (k : KeyedBuffer). first ≤ k.j) one.moves.made two.moves.made one.keys (keys_above first second less two.moves.made two.keys);
  items = subst R (sym (map-append passed_item one.made two.made)) (join (map passed_item one.made) (map passed_item two.made) one.items two.items);
}

-- the same by other words
pub emitted_as : (n k first : ℕ) (P Q : List FlowItem → Type 0) (out out' : Outlet) → n ≡ k → ((xs : List FlowItem) → P xs → Q xs) → Emitted n first P out out' → Emitted k first Q out out'
emitted_as n k first P Q out out' e f one = record {
  made = one.made;
  moves = let m = one.moves in record { slots = m.slots; made = m.made; grows = m.grows; takes = m.takes; few = let h = m.few in omega arith; each = m.each; spare = m.spare };
  keys = one.keys;
  items = f (map passed_item one.made) one.items;
}

-- the room that is left
pub emitted_room : (n first : ℕ) (P : List FlowItem → Type 0) (out mid : Outlet) → Emitted n first P out mid
    → (vec_len mid.passed ≤ vec_len out.passed + n) × (vec_capacity out.passed ≤ vec_capacity mid.passed) × (length out.spare.free ≤ length mid.spare.free + n) × (mid.spare.bytes ≡ out.spare.bytes)
emitted_room n first P out mid one =
    let m = one.moves in
    let many = how_many [] n out mid (only_passed one.made) m in
    let few = m.few in
    let long = ap length m.grows.passed ∙ length-append out.passed.items one.made in
    let free = length_permutation _ _ m.takes.free in
    let split = length-append m.slots mid.spare.free in
    let k₀ = out.passed.ok.0 in
    let k₁ = mid.passed.ok.0 in
    (omega arith, m.grows.passed_room, omega arith, m.takes.bytes)

-- WINDOWS

pub windows_more : (size : ℕ) (r : Reassembly) (dir : Direction) (m : spec.Template) (a n j i j' i' : ℕ) → j' ≡ j + n → i' ≡ i + n
    → windows_from size r dir m a j i (suc n) ≡ windows_from size r dir m a j i n ++ windows_from size r dir m a j' i' 1
windows_more size r dir m a zero j i j' i' ej ei =
    let fj : j ≡ j' = omega arith in
    let fi : i ≡ i' = omega arith in
    λ k. emitted_from r dir m a (fj k) (fi k * size) size ∷ []
windows_more size r dir m a (suc n) j i j' i' ej ei =
    ap (λ xs. emitted_from r dir m a j (i * size) size ∷ xs) (windows_more size r dir m a n (suc j) (suc i) j' i' (omega arith) (omega arith))

pub one_more_window : (w size : ℕ) → (w + 1) * size ≡ w * size + size
one_more_window w size = grind arith

-- the number of a position
pub same_number : (b at : ℕ) → (b + at % 2 ^ 32) % 2 ^ 32 ≡ (b + at) % 2 ^ 32
same_number b at = grind arith

pub no_rest : (size : ℕ) (r : Reassembly) (dir : Direction) (a j : ℕ) (m : spec.Template) → ready_of r.payloads % size ≡ 0 → [] ≡ rest_of size r dir a j m
no_rest size r dir a j m e =
    let test : nat_eq (ready_of r.payloads % size) 0 ≡ true = grind (arith, nat_tests) in
    ap (λ b. if b then [] else emitted_from r dir m a j (ready_of r.payloads - ready_of r.payloads % size) (ready_of r.payloads % size) ∷ []) (sym test)

-- the same bytes from the same position on
pub same_emission : (base : Option ℕ) (r : Reassembly) (dir : Dir) (m : Template) (a j at at' n : ℕ) (bytes : List ℕ) → base ≡ r.base → at ≡ at' → bytes ≡ bytes_of r.payloads at' n
    → emitted base dir m a j at bytes ∷ [] ≡ emitted_from r (dir_view dir) (template_view m) a j at' n ∷ []
same_emission base r dir m a j at at' n bytes eb ea es = λ i. record { dir = dir_view dir; item = emitted_item (template_view m) ((unwrap_or (eb i) 0 + ea i) % 2 ^ 32) a j (es i) } ∷ []

pub some_rest : (size : ℕ) (r : Reassembly) (dir : Direction) (a j : ℕ) (m : spec.Template) (n : ℕ) → n ≡ ready_of r.payloads % size → 0 < n
    → emitted_from r dir m a j (ready_of r.payloads - ready_of r.payloads % size) (ready_of r.payloads % size) ∷ [] ≡ rest_of size r dir a j m
some_rest size r dir a j m n e some =
    let test : nat_eq (ready_of r.payloads % size) 0 ≡ false = grind (arith, nat_tests) in
    ap (λ b. if b then [] else emitted_from r dir m a j (ready_of r.payloads - ready_of r.payloads % size) (ready_of r.payloads % size) ∷ []) (sym test)
