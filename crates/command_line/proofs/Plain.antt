-- Three words of which the last two begin with a byte other than a hyphen.
use Rattle.std.proofs.Common.{◌≡◌, ◌∙◌, ℕ, List, [], ◌∷◌, Option, Some, None, false, ◌==◌, codes, is_some, refl, ap, ap₂}
use Rattle.clap.specs.Words.{Row, Rule, Shape, Text, Kinds, built, fault_of}
use Rattle.clap.specs.Simple.{entered}
use Rattle.clap.specs.Kinds.{or_else}
use Rattle.clap.specs.Walk.{Held, Step, Walk, after_step, arg_by_index, finished, idle, nothing_held, settled, to_positional, value, walk, walk_from, walked, word_met}
use Rattle.clap.specs.Faults.{check_fault, defaults_fault, entered_fault, settle_fault, step_fault, turn_fault, walk_fault, word_fault}
use Rattle.clap.proofs.OnLiterals.{clap_on_literals}
use Rattle.words_spec.specs.AcceptedWords.{Inline}
use Rattle.words_spec.specs.AcceptedWords.{command}
use Rattle.words_spec.specs.AcceptedWords.{line_of, line_in}
use Rattle.brick_spec.specs.Decimal.{number_of, ◌>>=◌}
use Rattle.command_line.proofs.ClapMatches.{rows_found}

-- ---- one such word, at any command

plain_met : (c : List Rule) (place x : ℕ) (xs : Text) (h : Held) → (x == 45) ≡ false → word_met c [] false idle place (x ∷ xs) h ≡ (h, value)
plain_met c place x xs h e = rw (e, e) refl

plain_fault : (s : Shape) (x : ℕ) (xs : Text) (h : Held) → (x == 45) ≡ false → word_fault s [] false idle (x ∷ xs) h ≡ []
plain_fault s x xs h e = rw (e, e) refl

abbrev at_place : Held → ℕ → Walk
at_place h place = record { held = h; waiting = idle; position = place; is_trailing = false; stopped = None }

plain_walked : (c : List Rule) (place x : ℕ) (xs : Text) (h : Held) → (x == 45) ≡ false
    → walked c [] (at_place h place) (x ∷ xs) ≡ to_positional c (arg_by_index c place) (x ∷ xs) (at_place h place) h
unfolding walked
plain_walked c place x xs h e = ap (λ (m : Held × Step). after_step c (x ∷ xs) (at_place h place) m.0 m.1) (plain_met c place x xs h e)

plain_turn : (s : Shape) (place x : ℕ) (xs : Text) (h : Held) → (x == 45) ≡ false
    → turn_fault s [] (at_place h place) (x ∷ xs) ≡ step_fault s place h value
plain_turn s place x xs h e =
    ap₂ (λ (f : Kinds) (m : Held × Step). or_else f (step_fault s place m.0 m.1)) (plain_fault s x xs h e) (plain_met s.rules place x xs h e)

turn_by_turn : (s : Shape) (w : Walk) (word : Text) (rest : List Text)
    → walk_fault s [] w (word ∷ rest) ≡ or_else (turn_fault s [] w word) (walk_fault s [] (walked s.rules [] w word) rest)
unfolding walk_fault
turn_by_turn s w word rest = refl

no_words : (s : Shape) (w : Walk) → walk_fault s [] w [] ≡ []
unfolding walk_fault
no_words s w = refl

-- ---- the three words

abbrev shape : Shape
shape = (built command).top

abbrev rules : List Rule
rules = shape.rules

abbrev word_row : Text → Text → Row
word_row id text = record { id = id; values = text ∷ []; count = None; source = Some Rattle.clap.specs.declared.parser.matches.ValueSource.TheVariants.CommandLine; reading = Rattle.clap.specs.declared.builder.value_parser.Reading.TheVariants.AsWritten }

-- what is held after one, two and three words
abbrev held1 : Held
held1 = record { rows = []; pending = Some (codes "MODE", codes "inline" ∷ []); skip = 0 }

abbrev held2 : Text → Held
held2 c = record { rows = word_row (codes "MODE") (codes "inline") ∷ []; pending = Some (codes "CHAINS", c ∷ []); skip = 0 }

abbrev held3 : Text → Text → Held
held3 c o = record { rows = word_row (codes "MODE") (codes "inline") ∷ word_row (codes "CHAINS") c ∷ []; pending = Some (codes "OUT", o ∷ []); skip = 0 }

first : walked rules [] (walk_from nothing_held) (codes "inline") ≡ at_place held1 2
unfolding clap_on_literals
first = refl

first_turn : turn_fault shape [] (walk_from nothing_held) (codes "inline") ≡ []
unfolding clap_on_literals
first_turn = refl

second : (x : ℕ) (xs : Text) → (x == 45) ≡ false → walked rules [] (at_place held1 2) (x ∷ xs) ≡ at_place (held2 (x ∷ xs)) 3
second x xs e = plain_walked rules 2 x xs held1 e

third : (c : Text) (y : ℕ) (ys : Text) → (y == 45) ≡ false → walked rules [] (at_place (held2 c) 3) (y ∷ ys) ≡ at_place (held3 c (y ∷ ys)) 4
third c y ys e = plain_walked rules 3 y ys (held2 c) e

abbrev words : ℕ → Text → ℕ → Text → List Text
words x xs y ys = codes "inline" ∷ (x ∷ xs) ∷ (y ∷ ys) ∷ []

whole : (x y : ℕ) (xs ys : Text) → (x == 45) ≡ false → (y == 45) ≡ false
    → walk rules [] nothing_held (words x xs y ys) ≡ at_place (held3 (x ∷ xs) (y ∷ ys)) 4
whole x y xs ys hx hy =
    ap (λ (w : Walk). walked rules [] (walked rules [] w (x ∷ xs)) (y ∷ ys)) first
    ∙ ap (λ (w : Walk). walked rules [] w (y ∷ ys)) (second x xs hx)
    ∙ third (x ∷ xs) y ys hy

-- what a level's fault is, of the walk's fault and its end
abbrev fault_by : Kinds → Walk → Kinds
fault_by f w =
    or_else f (or_else (entered_fault (built command) w.stopped) (or_else (settle_fault rules false w.held)
    (or_else (defaults_fault (settled rules w.held).rows rules) (check_fault shape (finished rules w.held) (is_some (entered (built command) w.stopped))))))

no_walk_fault : (x y : ℕ) (xs ys : Text) → (x == 45) ≡ false → (y == 45) ≡ false
    → walk_fault shape [] (walk_from nothing_held) (words x xs y ys) ≡ []
no_walk_fault x y xs ys hx hy =
    let c : Text = x ∷ xs in
    let o : Text = y ∷ ys in
    let turn2 : turn_fault shape [] (at_place held1 2) c ≡ [] = plain_turn shape 2 x xs held1 hx in
    let turn3 : turn_fault shape [] (at_place (held2 c) 3) o ≡ [] = plain_turn shape 3 y ys (held2 c) hy in
    let rest3 : walk_fault shape [] (at_place (held2 c) 3) (o ∷ []) ≡ [] =
    turn_by_turn shape (at_place (held2 c) 3) o [] ∙ ap₂ or_else turn3 (no_words shape (walked rules [] (at_place (held2 c) 3) o)) in
    let rest2 : walk_fault shape [] (at_place held1 2) (c ∷ o ∷ []) ≡ [] =
    turn_by_turn shape (at_place held1 2) c (o ∷ [])
    ∙ ap₂ or_else turn2 (ap (λ (w : Walk). walk_fault shape [] w (o ∷ [])) (second x xs hx) ∙ rest3) in
    turn_by_turn shape (walk_from nothing_held) (codes "inline") (c ∷ o ∷ [])
    ∙ ap₂ or_else first_turn (ap (λ (w : Walk). walk_fault shape [] w (c ∷ o ∷ [])) first ∙ rest2)

fault_is : (x y : ℕ) (xs ys : Text)
    → fault_of command (words x xs y ys)
    ≡ fault_by (walk_fault shape [] (walk_from nothing_held) (words x xs y ys)) (walk rules [] nothing_held (words x xs y ys))
fault_is x y xs ys = refl

end_fault : (c o : Text) → fault_by [] (at_place (held3 c o) 4) ≡ []
unfolding clap_on_literals
end_fault c o = refl

line_is : (c o : Text) → line_in (finished rules (held3 c o)) ≡ Some (record { mode = Inline; workers = 1; chains = c; out = o })
unfolding clap_on_literals line_in number_of
line_is c o = refl

-- the line that three such words are
pub plain_line : (x y : ℕ) (xs ys : Text) → (x == 45) ≡ false → (y == 45) ≡ false
    → line_of (codes "inline" ∷ (x ∷ xs) ∷ (y ∷ ys) ∷ []) ≡ Some (record { mode = Inline; workers = 1; chains = x ∷ xs; out = y ∷ ys })
plain_line x y xs ys hx hy =
    let none : fault_of command (words x xs y ys) ≡ [] =
    fault_is x y xs ys ∙ ap₂ fault_by (no_walk_fault x y xs ys hx hy) (whole x y xs ys hx hy) ∙ end_fault (x ∷ xs) (y ∷ ys) in
    ap (λ (o : Option (List Row)). o >>= line_in) (rows_found (words x xs y ys) none)
    ∙ ap (λ (w : Walk). line_in (finished rules w.held)) (whole x y xs ys hx hy)
    ∙ line_is (x ∷ xs) (y ∷ ys)
