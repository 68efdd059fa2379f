use native.Mathlib.Omega.{arith}
use Rattle.subsumption.proofs.Refusals.{handed_up}
use Rattle.hermitcasket.proofs.ReadLaws.{read-long, fault-1, fault-2, counts-fit, roles-room, roles-fit, tables-room, read-on}
use Rattle.hermitcasket.proofs.text.read_text.Goals as goal

pub returns-then-text-gt8192 : goal.returns-then-text-gt8192
returns-then-text-gt8192 c = record { text_value = search read-long; read_fits = tt }

pub returns-in_err-counted : goal.returns-in_err-counted
returns-in_err-counted c =
    rw (handed_up _ c.from_residual.ensures)
    (record { text_value = fault-1 _ c.if-text-gt8192.false _ c.read_count.ensures _ _ _ _ _ c.in_err-counted.was; read_fits = tt })

pub behind-rest-requires : goal.behind-rest-requires
behind-rest-requires c = (counts-fit _ c.if-text-gt8192.false _ c.read_count.ensures _ c.in_ok-counted.was).1

pub read_roles-requires : goal.read_roles-requires
read_roles-requires c =
    record {
      rest_bound = roles-room _ c.if-text-gt8192.false _ c.read_count.ensures _ c.in_ok-counted.was _ c.behind-rest.ensures;
      in_bounds = omega (arith, c.requires);
    }

pub returns-in_err-above : goal.returns-in_err-above
returns-in_err-above c =
    rw (handed_up _ c.from_residual-in_err-above.ensures)
    (record {
      text_value =
          fault-2 _ c.if-text-gt8192.false _ c.read_count.ensures _ c.in_ok-counted.was _ c.behind-rest.ensures _ _ c.read_roles.ensures _ _ _ _
          c.in_err-above.was;
      read_fits = tt;
    })

pub behind-tables-requires : goal.behind-tables-requires
behind-tables-requires c =
    (roles-fit _ c.if-text-gt8192.false _ c.read_count.ensures _ c.in_ok-counted.was _ c.behind-rest.ensures _ _ c.read_roles.ensures _
    c.in_ok-above.was).1

pub overflow_add-counted : goal.overflow_add-counted
overflow_add-counted c =
    omega (
      arith,
      tables-room _ c.if-text-gt8192.false _ c.read_count.ensures _ c.in_ok-counted.was _ c.behind-rest.ensures _ _ c.read_roles.ensures _
          c.in_ok-above.was _ c.behind-tables.ensures,
    )

pub overflow_cast-counted : goal.overflow_cast-counted
overflow_cast-counted c = omega (arith, counts-fit _ c.if-text-gt8192.false _ c.read_count.ensures _ c.in_ok-counted.was)

pub read_tables-requires : goal.read_tables-requires
read_tables-requires c =
    let room =
    tables-room _ c.if-text-gt8192.false _ c.read_count.ensures _ c.in_ok-counted.was _ c.behind-rest.ensures _ _ c.read_roles.ensures _
    c.in_ok-above.was _ c.behind-tables.ensures
    in
    let few =
    roles-fit _ c.if-text-gt8192.false _ c.read_count.ensures _ c.in_ok-counted.was _ c.behind-rest.ensures _ _ c.read_roles.ensures _
    c.in_ok-above.was
    in
    let counts = counts-fit _ c.if-text-gt8192.false _ c.read_count.ensures _ c.in_ok-counted.was in
    record {
      rest_bound = room;
      variables_bound = counts.0;
      pairs_bound = few.0;
      in_bounds = omega (arith, c.requires);
      in_bounds_2 = omega (arith, c.requires);
      in_bounds_3 = omega (arith, c.requires);
    }

pub returns : goal.returns
returns c =
    record {
      text_value =
          read-on _ c.if-text-gt8192.false _ c.read_count.ensures _ c.in_ok-counted.was _ c.behind-rest.ensures _ _ c.read_roles.ensures _
          c.in_ok-above.was _ c.behind-tables.ensures _ _ _ _ c.read_tables.ensures;
      read_fits = c.read_tables.ensures.fits;
    }
