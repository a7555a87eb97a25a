-- The lines of a text that is not empty are its first line and the lines of what stands after it.
use Rattle.std.proofs.Common.{◌≡◌, ◌-◌, ◌==◌, true, false, ℕ, List, [], ◌∷◌, length, take, drop, refl, sym, ◌∙◌, arith, rules}
use Rattle.std.proofs.lemmas.Bool.Decides.{nat_tests}
use Rattle.std.proofs.lemmas.List.{nil_from_length, take_rest}
use Rattle.grammar.specs.Finding.{line_length, first_line, line_taken}
use Rattle.grammar.specs.Lines.{lines_of}
use Rattle.grammar.proofs.LineEnds.{taken-within, lines-of-some}
use Rattle.scanning.proofs.walking.LinesIterator.next.Goals as goal

ended : (bs : List ℕ) → (length bs == 0) ≡ true → (lines_of bs ≡ []) × (bs ≡ drop (line_taken bs) bs)
unfolding lines_of line_length
ended bs e =
    let none : bs ≡ [] = nil_from_length bs (grind (arith, nat_tests)) in
    (rw none refl, rw none refl)

-- the line that was found, and the lines of what is left as a part of the text
walks : (bs line : List ℕ) (n : ℕ) → (length bs == 0) ≡ false → line ≡ first_line bs → n ≡ line_taken bs
    → (lines_of bs ≡ line ∷ lines_of (take (length bs - n) (drop n bs))) × (take (length bs - n) (drop n bs) ≡ drop (line_taken bs) bs)
walks bs line n h e f = (rw (take_rest bs n, e, f) (lines-of-some bs (grind (arith, nat_tests))), rw (take_rest bs n, f) refl)

pub returns-then-walked-clause-steps : goal.returns-then-walked-clause-steps
returns-then-walked-clause-steps c =
    let all = ended c.args.self.now.rest.now (search rules) in
    ((all.0, all.0), all.1)

pub slice_bounds-left-count : goal.slice_bounds-left-count
slice_bounds-left-count c = omega (arith, c.line_taken.ensures, taken-within c.args.self.now.rest.now)

pub slice_bounds-left-start : goal.slice_bounds-left-start
slice_bounds-left-start c = omega (arith, c.line_taken.ensures, taken-within c.args.self.now.rest.now)

pub returns-clause-steps : goal.returns-clause-steps
returns-clause-steps c = walks _ _ _ (search rules) c.first_line-line.ensures c.line_taken.ensures

pub returns-clause-goes : goal.returns-clause-goes
returns-clause-goes c =
    let on = (walks _ _ _ (search rules) c.first_line-line.ensures c.line_taken.ensures).0 in
    search (rules, on)
