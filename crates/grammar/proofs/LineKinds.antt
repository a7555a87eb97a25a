-- A line among several kinds of line: by the first whose word it begins with.
use Rattle.std.proofs.Common.{ℕ, List, ◌∷◌, Option, Some, None, MatchOption, ◌≡◌}
use denote.Ref.{Bor}
use Rattle.grammar.specs.declared.Line.{Line}
use Rattle.grammar.specs.Grammar.{Kind, after_word, numbers_of, said_by, line_among}

-- whether the line begins with the word of the first kind decides
module _
    (k : Kind)
    (ks : List Kind)
    (line : List ℕ)
    {r : Line}
    {found : Option (Bor (List ℕ))}
    (told : MatchOption found (after_word k.word line ≡ None) (λ rest. after_word k.word line ≡ Some rest.now))
  where
    -- another word: what the other kinds make of it
    pub passed : found ≡ None → r ≡ line_among ks line → r ≡ line_among (k ∷ ks) line
    unfolding line_among
    passed e f =
        let other = rw e at told in
        rw other f

    -- this word: what the numbers behind it say
    pub met : {rest : Bor (List ℕ)} → found ≡ Some rest → r ≡ said_by k (numbers_of k.count rest.now) → r ≡ line_among (k ∷ ks) line
    unfolding line_among
    met {rest} e f =
        let same = rw e at told in
        rw same f
