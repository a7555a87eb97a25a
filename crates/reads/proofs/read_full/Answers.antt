-- What a read put behind the bytes that were there is joined to them.
use Rattle.std.proofs.Common.{◌≡◌, ℕ, ◌+◌, ◌-◌, ◌≤◌, List, ◌++◌, rules, length, take, drop, ap, ◌∙◌, sym, subst, drop_at, length-take-le, le_refl}
use Rattle.std.proofs.lemmas.Slice.{take-put_mid_below}
use Rattle.std.specs.Io.KnownBytes.{Consumes}
use Rattle.std.proofs.KnownBytes.{Consumes-trans}
use borrow.Rule.Slice.PartMut.{put_mid, post_of}
use lib.Seq.{take-add, take-append-le}
use Rattle.reads.proofs.read_full.Goals as goal

-- the bytes before a place, and the first bytes of what was put there
take-put_mid : (a k n : ℕ) (xs ys : List ℕ) → a ≤ length xs → n ≤ length ys → take a xs ++ take n ys ≡ take (a + n) (put_mid a k xs ys)
take-put_mid a k n xs ys within fits =
    let after = post_of a k xs in
    let behind = drop_at (take a xs) (ys ++ after) a (length-take-le a xs within) in
    let front = take-put_mid_below _ _ _ _ _ (le_refl a) within in
    sym (take-add a n (put_mid a k xs ys) ∙ ap (λ l. l ++ take n (drop a (put_mid a k xs ys))) front ∙ ap (λ l. take a xs ++ take n l) behind ∙ ap (λ l. take a xs ++ l) (take-append-le n ys after fits))

pub loop-done-preserved : goal.loop-done-preserved
loop-done-preserved g c =
    let joined = take-put_mid c.loop-done.done (length c.loop-done.buf - c.loop-done.done) c.in_ok-count.count c.loop-done.buf c.read.new.buf c.loop-done.invariant.1 c.in_ok-count.ensures.bound.0 in
    (search rules, search rules, subst (Consumes _ _) joined (Consumes-trans _ _ _ _ _ c.loop-done.invariant.2 c.in_ok-count.ensures.bytes.0))
