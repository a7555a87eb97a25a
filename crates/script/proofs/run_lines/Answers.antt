-- `script::run_lines` meets its contract.
use Rattle.std.proofs.Common.{ℕ, ◌+◌, ◌-◌, ◌≤◌, ◌≡◌, List, [], length, refl, sym, ap, ◌∙◌, arith, rules}
use mathlib.Core.Logic.{◌⊎◌, inl, inr}
use Rattle.grammar.proofs.LineEnds.{lines-within}
use Rattle.program.proofs.Runs.{came_same, turn_on, run_ends}
use Rattle.script.specs.Putting.{progress}
use Rattle.script.proofs.run_lines.Goals as goal

-- where the lines and their numbers gave no pair, it is the lines that have ended
none-left : {X Y : Type 0} {F : X → Type 0} {G H : Y → Type 0} (k : ℕ) (ls : List (List ℕ)) → k + length ls ≤ 65537
    → ((x : X) × ((4294967295 - k ≡ 0) × F x)) ⊎ ((y : Y) × (((ls ≡ []) × G y) × H y)) → ls ≡ []
none-left k ls few (inl (x, (e, f))) = absurd (omega arith)
none-left k ls few (inr (y, ((e, g), h))) = e

pub loop-k-init : goal.loop-k-init
loop-k-init c =
    let zip = c.zip-k-items.ensures in
    rw (c.into_iter-k-iterator.ensures.into_iter_gives, zip.first, zip.second, c.lines_in.ensures.lines)
    (omega (arith, lines-within c.args.input.now, c.requires), refl, refl)

pub loop-k-preserved : goal.loop-k-preserved
loop-k-preserved c =
    let loop = c.loop-k in
    let counted = c.in-Some.ensures.steps.0 in
    let walked = c.in-Some.ensures.steps.1.0 in
    let turn = turn_on loop.k-iterator.a.start (progress loop.out) loop.desk counted walked c.read_line.ensures c.take-turn.ensures c.put_answer.ensures.put in
    let inv = loop.invariant in
    (omega (arith, counted, ap length walked, inv.0), inv.1 ∙ turn, c.put_answer.ensures.same_reference ∙ inv.2)

pub returns : goal.returns
returns c =
    let loop = c.loop-k in
    let inv = loop.invariant in
    let ended = run_ends (progress loop.out) loop.desk loop.k-iterator.a.start (none-left _ _ inv.0 c.in-None.ensures.steps) in
    let same = c.put_end.ensures.same_reference ∙ inv.2 in
    came_same (c.put_end.ensures.put ∙ ended ∙ sym inv.1) (record { place = refl; held = search (rules, same) })
