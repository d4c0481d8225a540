use Rattle.std.proofs.Common.{◌∙◌, ◌≤◌, ◌+◌, ◌*◌, ◌^◌, None, get_or, length, ap, arith}
use Rattle.fx_pool.specs.Region.{RunBegins, Region}
use Rattle.fx_pool.proofs.Pools.{bytes-within, bytes-len}
use Rattle.fx_pool.proofs.pool.Pool.bytes.Goals as goal

pub slice_bounds-result-end : goal.slice_bounds-result-end
slice_bounds-result-end c =
    let run : RunBegins c.self.inside.out.items c.args.buf.now.start c.args.buf.now.order = ap (λ (p : Region). get_or p.out c.args.buf.now.start None) c.self.view_is ∙ c.requires in
    let w : 4096 * (c.args.buf.now.start + 2 ^ c.args.buf.now.order) ≤ length c.self.inside.bytes.items = bytes-within c.self.inside.order c.self.inside.free c.self.inside.out.items c.self.inside.bytes.items c.self.invariant c.args.buf.now.start c.args.buf.now.order run in
    omega (arith, c.range-start.ensures.end, c.deref.ensures.len, c.self.inside.bytes.ok.0, w)

pub returns-clause-len : goal.returns-clause-len
returns-clause-len c =
    let run : RunBegins c.self.inside.out.items c.args.buf.now.start c.args.buf.now.order = ap (λ (p : Region). get_or p.out c.args.buf.now.start None) c.self.view_is ∙ c.requires in
    rw (c.range-start.ensures.start, c.range-start.ensures.end, c.deref.ensures.value)
    (bytes-len c.self.inside.order c.self.inside.free c.self.inside.out.items c.self.inside.bytes.items c.self.invariant c.args.buf.now.start c.args.buf.now.order run)
