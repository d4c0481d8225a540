use Rattle.std.proofs.Common.{rules, ◌≡◌, ◌++◌, length, true, refl, sym, ◌∙◌}
use Rattle.byteorder.specs.Endian.{little_bytes}
use Rattle.fx_super.specs.Super.{super_padding}
use Rattle.fx_super.proofs.Parts.{counters_of_one}
use Rattle.fx_super.proofs.Judging.{cut_up, sizes_here, zeros_are_padding, padding_is_zero, listed_here, listed_there, counted_here, counted_there}
use Rattle.fx_super.proofs.decode.fields_at.Goals as goal

pub returns-then-not-is_zero : goal.returns-then-not-is_zero
returns-then-not-is_zero c = λ f h.
    let p = cut_up c.args.bytes.now c.split_at.result.1.now c.split_at-2.result.1.now c.split_at-3.result.1.now c.split_at.result.0.now c.split_at-2.result.0.now c.split_at-3.result.0.now c.split_at-4.result.0.now c.split_at-4.result.1.now c.split_at.ensures.front c.split_at.ensures.back c.split_at-2.ensures.front c.split_at-2.ensures.back c.split_at-3.ensures.front c.split_at-3.ensures.back c.split_at-4.ensures.front c.split_at-4.ensures.back in
    let tail : c.split_at-4.result.1.now ≡ little_bytes 8 f.floor ++ super_padding = p.tail_is ∙ h.tail_is in
    let yes : c.is_zero.result ≡ true = c.is_zero.ensures.1 (padding_is_zero c.split_at-4.result.1.now c.take_u64-floor.result.1.now c.take_u64-floor.result.0 f (search rules) h.floor_fits (search rules) c.take_u64-floor.ensures.read tail) in
    cc

pub returns-in_err-objects : goal.returns-in_err-objects
returns-in_err-objects c = rw c.from_residual-in_err-objects.ensures (λ f h.
    let p = cut_up c.args.bytes.now c.split_at.result.1.now c.split_at-2.result.1.now c.split_at-3.result.1.now c.split_at.result.0.now c.split_at-2.result.0.now c.split_at-3.result.0.now c.split_at-4.result.0.now c.split_at-4.result.1.now c.split_at.ensures.front c.split_at.ensures.back c.split_at-2.ensures.front c.split_at-2.ensures.back c.split_at-3.ensures.front c.split_at-3.ensures.back c.split_at-4.ensures.front c.split_at-4.ensures.back in
    let same = counters_of_one c.split_at-2.result.0.now _ _ _ _ _ _ _ _ _ _ _ _ _ _ c.in_ok-counters.ensures (counted_there c.args.bytes.now c.split_at-2.result.0.now f p.counters_are h) in
    c.in_err-objects.ensures f.objects (listed_there _ _ _ f.objects p.objects_are (sym same.objects) h.objects_are))

pub returns-in_err-allocs : goal.returns-in_err-allocs
returns-in_err-allocs c = rw c.from_residual-in_err-allocs.ensures (λ f h.
    let p = cut_up c.args.bytes.now c.split_at.result.1.now c.split_at-2.result.1.now c.split_at-3.result.1.now c.split_at.result.0.now c.split_at-2.result.0.now c.split_at-3.result.0.now c.split_at-4.result.0.now c.split_at-4.result.1.now c.split_at.ensures.front c.split_at.ensures.back c.split_at-2.ensures.front c.split_at-2.ensures.back c.split_at-3.ensures.front c.split_at-3.ensures.back c.split_at-4.ensures.front c.split_at-4.ensures.back in
    let same = counters_of_one c.split_at-2.result.0.now _ _ _ _ _ _ _ _ _ _ _ _ _ _ c.in_ok-counters.ensures (counted_there c.args.bytes.now c.split_at-2.result.0.now f p.counters_are h) in
    c.in_err-allocs.ensures f.allocs (listed_there _ _ _ f.allocs p.allocs_are (sym same.allocs) h.allocs_are))

pub returns : goal.returns
returns c =
    let p = cut_up c.args.bytes.now c.split_at.result.1.now c.split_at-2.result.1.now c.split_at-3.result.1.now c.split_at.result.0.now c.split_at-2.result.0.now c.split_at-3.result.0.now c.split_at-4.result.0.now c.split_at-4.result.1.now c.split_at.ensures.front c.split_at.ensures.back c.split_at-2.ensures.front c.split_at-2.ensures.back c.split_at-3.ensures.front c.split_at-3.ensures.back c.split_at-4.ensures.front c.split_at-4.ensures.back in
    let n = c.in_ok-counters.counters in
    let objects = c.in_ok-objects.ensures in
    let allocs = c.in_ok-allocs.ensures in
    let zeros = c.is_zero.ensures.0 (search rules) in (
      refl,
      record {
        sizes_are = sizes_here _ _ _ _ _ p.sizes_are c.in_ok-sizes.ensures;
        counters_are = counted_here c.args.bytes.now c.split_at-2.result.0.now n.sequence n.chain n.base n.next_id n.next_store n.objects n.allocs (length c.in_ok-objects.objects) (length c.in_ok-allocs.allocs) p.counters_are (sym objects.count_is) (sym allocs.count_is) c.in_ok-counters.ensures;
        objects_are = listed_here _ _ _ _ p.objects_are objects;
        allocs_are = listed_here _ _ _ _ p.allocs_are allocs;
        floor_fits = search rules;
        tail_is = sym p.tail_is ∙ zeros_are_padding c.split_at-4.result.1.now c.take_u64-floor.result.1.now c.take_u64-floor.result.0 (search rules) c.take_u64-floor.ensures.read zeros;
      },
    )
