use Rattle.std.proofs.Common.{◌≡◌, map, sum, sym, ◌∙◌, rules}
use Rattle.std.proofs.lemmas.List.Sums.{sum-map}
use Rattle.batches.proofs.BatchLaws.{total-sum}
use Rattle.batches.proofs.check.sum_of.Goals as goal

pub returns : goal.returns
returns c =
    let e : c.sum.result ≡ sum (map (λ x. x) c.args.lengths.now) = search rules in
    e ∙ sum-map (λ x. x) c.args.lengths.now ∙ sym (total-sum c.args.lengths.now)
