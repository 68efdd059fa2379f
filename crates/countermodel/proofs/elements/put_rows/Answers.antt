use Rattle.countermodel.proofs.PuttingLaws.{rows-put}
use Rattle.countermodel.proofs.elements.put_rows.Goals as goal

pub put_names-end-requires : goal.put_names-end-requires
put_names-end-requires c = record { checked = c.requires.checked }

pub put_links-requires : goal.put_links-requires
put_links-requires c = record { checked = c.requires.checked; low_roles = c.requires.low_roles; at_bound = c.put_names-end.ensures.upper_bound }

pub shape_of-out : goal.shape_of-out
shape_of-out c = (rows-put _ _ _ _ _ _ _ _ c.put_names-end.ensures.put c.put_links.ensures).size

pub returns : goal.returns
returns c = rows-put _ _ _ _ _ _ _ _ c.put_names-end.ensures.put c.put_links.ensures
