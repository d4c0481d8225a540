use Rattle.std.proofs.Common.{◌∙◌, ◌≤◌, ◌+◌, ◌*◌, ◌^◌, None, get_or, length, ap, arith}
use Rattle.fx_pool.specs.Region.{RunBegins, Region}
use Rattle.fx_pool.proofs.Pools.{bytes-within}
use Rattle.fx_pool.proofs.pool.Pool.bytes_mut.Goals as goal

pub slice_mut-requires-clause-in_bounds : goal.slice_mut-requires-clause-in_bounds
slice_mut-requires-clause-in_bounds c =
    let run : RunBegins c.self.inside.out.items c.args.buf.now.start c.args.buf.now.order = ap (λ (p : Region). get_or p.out c.args.buf.now.start None) c.self.view_is ∙ c.requires in
    let w : 4096 * (c.args.buf.now.start + 2 ^ c.args.buf.now.order) ≤ length c.self.inside.bytes.items = bytes-within c.self.inside.order c.self.inside.free c.self.inside.out.items c.self.inside.bytes.items c.self.invariant c.args.buf.now.start c.args.buf.now.order run in
    omega (arith, c.range.ensures.end, c.self.inside.bytes.ok.0, w)
