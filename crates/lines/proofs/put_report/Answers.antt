-- The rows, then the two lines of figures, for the sizes that the tables name.
use Rattle.std.proofs.Common.{◌<◌, arith}
use Rattle.lines.specs.Reporting.{here-whole, figures-end, report-end, report-put}
use Rattle.promises.specs.Reading.{sizes-there}
use Rattle.lines.proofs.put_report.Goals as goal

pub read_sizes-p-requires : goal.read_sizes-p-requires
read_sizes-p-requires c = sizes-there c.requires.by_index.2.stands.whole.sized

pub put_rows-end-requires : goal.put_rows-end-requires
put_rows-end-requires c = (here-whole c.requires.by_index.2 c.read_sizes-p.ensures, omega (arith, c.requires.at_in_bounds))

pub free_pages-free-requires : goal.free_pages-free-requires
free_pages-free-requires c = here-whole c.requires.by_index.2 c.read_sizes-p.ensures

pub made-made-requires : goal.made-made-requires
made-made-requires c = here-whole c.requires.by_index.2 c.read_sizes-p.ensures

pub freed-freed-requires : goal.freed-freed-requires
freed-freed-requires c = here-whole c.requires.by_index.2 c.read_sizes-p.ensures

pub total-total-requires : goal.total-total-requires
total-total-requires c = here-whole c.requires.by_index.2 c.read_sizes-p.ensures

pub put_row-requires : goal.put_row-requires
put_row-requires c =
    let free = c.free_pages-free.type_inv in
    let slots = c.crossing_slots.type_inv in
    let put-rows = c.put_rows-end in
    let put_two = c.put_row-last in
    omega (arith, c.requires.at_in_bounds, put-rows.ensures.1, put-rows.auto.out, put_two.auto.out, figures-end put_two.ensures (omega (arith, free, slots)) (omega (arith, free, slots)))

pub returns : goal.returns
returns c =
    let read-sizes = c.read_sizes-p in
    let rows = c.put_rows-end.ensures in
    let free-pages = c.free_pages-free in
    let crossing-slots = c.crossing_slots in
    let figures = c.put_row-last.ensures in
    let made = c.made-made in
    let freed = c.freed-freed in
    let total = c.total-total in
    let last = c.put_row.ensures in
    let free-ok = free-pages.type_inv in
    let slots-ok = crossing-slots.type_inv in
    let made_ok = made.type_inv in
    let freed-ok = freed.type_inv in
    let total-ok = total.type_inv in
    let fits : (free-pages.result < 4294967296) × (crossing-slots.result < 4294967296) × (made.result < 4294967296) × (freed.result < 4294967296) × (total.result < 4294967296) =
    omega (arith, free-ok, slots-ok, made_ok, freed-ok, total-ok) in record {
      put = report-put c.requires.by_index.2 read-sizes.ensures c.requires.at_in_bounds rows.0 rows.1 fits figures last free-pages.ensures crossing-slots.ensures made.ensures freed.ensures total.ensures;
      upper_bound = report-end c.requires.by_index.2 read-sizes.ensures c.requires.at_in_bounds rows.0 rows.1 fits figures last;
    }
