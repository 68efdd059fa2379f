-- The words of the syntax (02, A.8): its keywords, ":cN" for the name N and ":rN" for the role N, N written as in house text and in
-- 01's ranges.
use Rattle.std.specs.Prelude.{ℕ, ◌+◌, List, [], ◌∷◌, Bool, true, false, not, eqb, ltb, length, drop}
use Rattle.subsumption.specs.Tables.{both}
use Rattle.numerals.specs.Bytes.{starts}
use Rattle.numerals.specs.Reading.{run_of}
use Rattle.owl.specs.declared.words.Word.{Word}
use Rattle.owl.specs.declared.words.Word.TheVariants.{AxiomKey, TopKey, AndKey, SomeKey, NameOf, RoleOf, Other}

-- "SubClassOf", "owl:Thing", "ObjectIntersectionOf", "ObjectSomeValuesFrom", ":c", ":r"
abbrev pub axiom_text : List ℕ
axiom_text = 83 ∷ 117 ∷ 98 ∷ 67 ∷ 108 ∷ 97 ∷ 115 ∷ 115 ∷ 79 ∷ 102 ∷ []

abbrev pub top_text : List ℕ
top_text = 111 ∷ 119 ∷ 108 ∷ 58 ∷ 84 ∷ 104 ∷ 105 ∷ 110 ∷ 103 ∷ []

abbrev pub and_text : List ℕ
and_text =
    79 ∷ 98 ∷ 106 ∷ 101 ∷ 99 ∷ 116 ∷ 73 ∷ 110 ∷ 116 ∷ 101 ∷ 114 ∷ 115 ∷ 101 ∷ 99 ∷ 116 ∷ 105 ∷ 111 ∷ 110 ∷ 79 ∷ 102 ∷ []

abbrev pub some_text : List ℕ
some_text =
    79 ∷ 98 ∷ 106 ∷ 101 ∷ 99 ∷ 116 ∷ 83 ∷ 111 ∷ 109 ∷ 101 ∷ 86 ∷ 97 ∷ 108 ∷ 117 ∷ 101 ∷ 115 ∷ 70 ∷ 114 ∷ 111 ∷ 109 ∷ []

abbrev pub name_key : List ℕ
name_key = 58 ∷ 99 ∷ []

abbrev pub role_key : List ℕ
role_key = 58 ∷ 114 ∷ []

-- The word is that text.
unfoldable pub is_text : List ℕ → List ℕ → Bool
is_text text word = both (eqb (length word) (length text)) (starts text word)

unfoldable pub pick_word : Bool → Word → Word → Word
pick_word true a b = a
pick_word false a b = b

-- The bytes behind a key are a number, all of them, and it is within the range.
unfoldable pub is_numbered : List ℕ → ℕ → List ℕ → Bool
is_numbered key most word =
    both (starts key word)
    (both (ltb 0 (run_of (drop (length key) word)).length)
    (both (eqb (length key + (run_of (drop (length key) word)).length) (length word))
    (not (ltb most (run_of (drop (length key) word)).value))))

unfoldable pub read_word : List ℕ → Word
read_word word =
    pick_word (is_text axiom_text word) AxiomKey
    (pick_word (is_text top_text word) TopKey
    (pick_word (is_text and_text word) AndKey
    (pick_word (is_text some_text word) SomeKey
    (pick_word (is_numbered name_key 999 word) (NameOf (run_of (drop 2 word)).value)
    (pick_word (is_numbered role_key 99 word) (RoleOf (run_of (drop 2 word)).value) Other)))))
