use Rattle.std.proofs.Common.{◌≡◌, ◌<◌, ◌≤◌, ◌-◌, length, slice_set, refl, arith}
use Rattle.std.proofs.lemmas.List.{length-set, set-append_left, set-append_right, get_or_append_left, get_or-append_right}
use Rattle.std.proofs.lemmas.Option.{slice_get_read}
use Rattle.wasmi_dense.proofs.slice_pair.pair_in_order.Goals as goal

pub returns : goal.returns
returns g c =
    let parts = c.split_at_mut-front.ensures in let items = c.args.items.now in let low = c.args.low in let high = c.args.high in
    let front = c.split_at_mut-front.result.0.now in let back = c.split_at_mut-front.result.1.now in
    let inside : low < length front = omega (arith, parts.front_len, c.requires.order) in let here : low < length items = omega (arith, c.requires.order, c.requires.in_bounds) in
    let same : high ≤ high = omega arith in let none : high - high ≡ 0 = omega arith in (
      (
        (refl, refl),
        λ x y. rw (parts.value, set-append_left front back low x inside, set-append_right (slice_set front low x) back high high y (rw length-set parts.front_len) same, none) refl,
      ),
      record {
        writes_back = tt;
        first = slice_get_read items (length items) low c.index-front-low.result refl here (rw (parts.value, get_or_append_left front back c.index-front-low.result low inside) c.index-front-low.is);
        second = slice_get_read items (length items) high c.index-back-0.result refl c.requires.in_bounds (rw (parts.value, get_or-append_right front back high high c.index-back-0.result parts.front_len same, none) c.index-back-0.is);
      },
    )
