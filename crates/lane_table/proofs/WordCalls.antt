-- The steps on a buffer's word, and END's put, as a call asks for them.
use Rattle.std.proofs.Common.{◌≡◌, ℕ, ◌+◌, ◌%◌, ◌<◌, false, List, [], ◌∷◌, length, get_or, sym, ap, ◌∙◌, subst, arith, mod-lt, Some}
use mathlib.Core.Option.{none}
use Rattle.atomic_table.specs.Table.{Me, step, Allows, rest, carried_after}
use Rattle.packet_owner.specs.Buffer.{BufferModel as Buffer}
use Rattle.lane_spec.specs.Counts.{times}
use Rattle.lane_table.specs.declared.view.Stored.{Stored}
use Rattle.lane_table.specs.declared.view.Stored.TheVariants.{Empty, Free}
use Rattle.lane_table.specs.declared.view.LaneKey.{LaneKey}
use Rattle.lane_table.specs.declared.view.SeatView.{SeatView}
use Rattle.lane_table.specs.Cells.{END}
use Rattle.lane_table.specs.Rule.{Lanes, base_of, mark_at}
use Rattle.lane_table.specs.Steps.{Claims, Claiming, Takes, Settles, Releases, Closes, closed_by}
use Rattle.lane_table.proofs.Claim.{claims}
use Rattle.lane_table.proofs.Moves.{takes_slot, settles, releases}
use Rattle.lane_table.proofs.Finish.{closes}
use Rattle.lane_core.specs.Seats.{log_of}
use Rattle.lane_table.proofs.Decodes.{ring_is}

abbrev M : Type 0
M = Me Stored SeatView

pub same_key : (a b : LaneKey) → Some a ≡ Some b → a ≡ b
same_key a b e = cc

module _ (z : LaneKey) (slots id i : ℕ) (me : M) (is : slots ≡ z.buffers) (below : i < z.buffers) (knows : 0 < length me.0.found) where
  pub claim_call : me.0.about ≡ Some z → 0 < times 0 me.0.roles → length me.0.roles ≡ 1 → me.0.out ≡ [] → Allows (Lanes z) slots id me i (λ _. 0) (Claiming (step slots i 0 0 none) me)
  claim_call about ingest one_role free_hand = let F : ℕ → Type 0 = λ k. Allows (Lanes z) k id me i (λ _. 0) (Claiming (step k i 0 0 none) me) in
      subst F (sym is) (λ s h len seen fits. let r = claims z id i me.0 me.1 knows below ingest one_role free_hand s h len seen fits in
      (r.0, r.1, r.2, r.3, λ z' about'. subst (λ (y : LaneKey). Claims y i me.0 me.1 (get_or s.words i 0) (r.0, carried_after me.1 r.1)) (same_key z z' (sym about ∙ about')) r.4))

  pub take_call : me.0.out ≡ [] → 0 < times i me.0.held → Allows (Lanes z) slots id me i (λ n. n) (Takes (step slots i 0 0 none) me)
  take_call idle has = let F : ℕ → Type 0 = λ k. Allows (Lanes z) k id me i (λ n. n) (Takes (step k i 0 0 none) me) in subst F (sym is) (takes_slot z id i me.0 me.1 below knows idle has)

  pub settle_call : (c : List (ℕ × Stored)) → me.1 ≡ (i, Empty) ∷ c → me.0.out ≡ i ∷ [] → Allows (Lanes z) slots id me i (λ n. n) (Settles (step slots i 0 0 none) me)
  settle_call c held out = let F : ℕ × List (ℕ × Stored) → Type 0 = λ k. Allows (Lanes z) k.0 id (me.0, k.1) i (λ n. n) (Settles (step k.0 i 0 0 none) (me.0, k.1)) in
      subst F (λ j. (sym is j, sym held j)) (settles z id i me.0 c below knows out)

  pub release_call : (c : List (ℕ × Stored)) (b : Buffer) → me.1 ≡ (i, Free b) ∷ c → me.0.out ≡ i ∷ [] → b.slot ≡ i → b.room ≡ z.bytes → Allows (Lanes z) slots id me i (λ _. 1) (Releases (step slots i 1 0 none) me)
  release_call c b held out slot room = let F : ℕ × List (ℕ × Stored) → Type 0 = λ k. Allows (Lanes z) k.0 id (me.0, k.1) i (λ _. 1) (Releases (step k.0 i 1 0 none) (me.0, k.1)) in
      subst F (λ j. (sym is j, sym held j)) (releases z id i me.0 c b below knows out slot room)

module _ (z : LaneKey) (slots id w cell : ℕ) (me : M) (is : slots ≡ z.buffers) (at : cell ≡ base_of z.buffers w + length (log_of me.0.sent w) % (z.buffers + 1)) (knows : 0 < length me.0.found) (is_worker : w < z.workers) (is_ingest : 0 < times 0 me.0.roles) (going : mark_at me.0.ends w ≡ false) where
  pub close_call : Allows (Lanes z) slots id me cell (λ _. END) (Closes (step slots cell END 0 none) me)
  close_call = let near : length (log_of me.0.sent w) % (z.buffers + 1) < z.buffers + 1 = mod-lt (length (log_of me.0.sent w)) (omega arith) in
      let F : ℕ × ℕ → Type 0 = λ y. Allows (Lanes z) y.0 id me y.1 (λ _. END) (Closes (step y.0 y.1 END 0 none) me) in
      subst F (λ j. (sym is j, sym at j)) (λ s h len seen fits. let r = closes z id w me.0 me.1 knows is_worker is_ingest going s h len seen fits in
      (r.0, r.1, r.2, r.3, (r.4.0, r.4.1 ∙ (let d = ring_is z.buffers w (length (log_of me.0.sent w) % (z.buffers + 1)) near in λ j. (closed_by (sym d j) me.0, me.1)))))

pub headed : {A : Type 0} (l r : List (ℕ × A)) (x : ℕ × A) → l ≡ x ∷ r → l ≡ x ∷ rest l
headed l r x e = e ∙ ap (λ t. x ∷ t) (sym (ap rest e))

pub same_front : (l r : List (ℕ × Stored)) (x y : ℕ × Stored) (r' : List (ℕ × Stored)) → l ≡ x ∷ r → l ≡ y ∷ r' → x.1 ≡ y.1
same_front l r x y r' e d = heads x y r r' (sym e ∙ d) where
  front_of : Stored → List (ℕ × Stored) → Stored
  front_of d [] = d
  front_of d (x ∷ xs) = x.1

  heads : (x y : ℕ × Stored) (r r' : List (ℕ × Stored)) → (x ∷ r) ≡ (y ∷ r') → x.1 ≡ y.1
  heads x y r r' e = ap (front_of x.1) e

pub same_buffer : (a b : Buffer) → Free a ≡ Free b → a ≡ b
same_buffer a b e = cc
