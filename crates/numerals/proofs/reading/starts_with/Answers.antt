use mathlib.Core.Path.{ap, ◌∙◌}
use Rattle.std.proofs.lemmas.Bool.Decides.{Decides-eqb, same_from_decides}
use Rattle.std.proofs.lemmas.Slice.Eq.{starts_is}
use Rattle.numerals.specs.Bytes.{starts}
use Rattle.numerals.proofs.ReadingLaws.{starts-front, starts-right}
use Rattle.numerals.proofs.reading.starts_with.Goals as goal

pub returns : goal.returns
returns c =
    let key = c.args.key.now in
    let rest = c.args.rest.now in
    let by_call = starts_is Decides-eqb rest key c.starts_with.result c.starts_with.ensures.value in
    same_from_decides _ _ (by_call.0, by_call.1 _) (starts-front key rest, λ e. ap (starts key) e ∙ starts-right key _)
