use Rattle.std.proofs.Common.{sym, ◌∙◌}
use Rattle.subsumption.proofs.Linking.{linked-pass}
use Rattle.subsumption.proofs.closure.links.link_to.Goals as goal

pub returns : goal.returns
returns c = linked-pass _ _ _ _ c.requires.inner _ c.requires.f_bound _ _ (sym c.node_at.ensures ∙ c.in-Exists.is) _ _ _ _ _ _ _ _ _ c.over-found.ensures c.union-all.ensures c.take.ensures
