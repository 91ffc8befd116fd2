-- The text and the reach of a stage `scan`.
use Rattle.std.proofs.Common.{◌≡◌, ◌≤◌, ℕ, List, length, true, nat_le}
use Rattle.std.proofs.lemmas.Bool.{and_parts, leb-true}
use Rattle.chain_spec.specs.ChainSet as spec
use Rattle.chain_spec.specs.ChainSet.{is_between, is_stage_right}

pub scan_ranges : (text : List ℕ) (reach : ℕ) → is_stage_right (spec.Scan text reach) ≡ true → (1 ≤ length text) × (length text ≤ 64) × (1460 ≤ reach) × (reach ≤ 1048576)
scan_ranges text reach h =
    let parts = and_parts (is_between 1 64 (length text)) (is_between 1460 1048576 reach) h in
    let many = and_parts (nat_le 1 (length text)) (nat_le (length text) 64) parts.0 in
    let far = and_parts (nat_le 1460 reach) (nat_le reach 1048576) parts.1 in
    (leb-true 1 (length text) many.0, leb-true (length text) 64 many.1, leb-true 1460 reach far.0, leb-true reach 1048576 far.1)
