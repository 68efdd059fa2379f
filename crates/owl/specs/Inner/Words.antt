-- Words that are no keyword (src/words.rt).
use Rattle.std.specs.Prelude.{ℕ, List, drop}
use Rattle.numerals.specs.Reading.{run_of}
use Rattle.owl.specs.declared.words.Word.{Word}
use Rattle.owl.specs.declared.words.Word.TheVariants.{NameOf, RoleOf, Other}
use Rattle.owl.specs.Words.{name_key, role_key, pick_word, is_numbered}

unfoldable pub read_numbered : List ℕ → Word
read_numbered word =
    pick_word (is_numbered name_key 999 word) (NameOf (run_of (drop 2 word)).value)
    (pick_word (is_numbered role_key 99 word) (RoleOf (run_of (drop 2 word)).value) Other)
