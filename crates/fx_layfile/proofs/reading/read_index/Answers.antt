use Rattle.std.proofs.Common.{◌≡◌, ◌∙◌, [], ◌∷◌, ◌++◌, length, true, sym, ap, subst, arith, length-append}
use Rattle.fx_layfile.specs.Layer.{IsUnmarked, AreUnmarked, mark_blocks, blocks_in}
use Rattle.fx_layfile.specs.Reading.{Leads}
use Rattle.fx_layfile.proofs.Walking.{tells_on, reads_then, unmarked_more, marks_more, leads_more, index_stops}
use Rattle.fx_layfile.proofs.reading.read_index.Goals as goal

pub returns-in-Err-clause-found : goal.returns-in-Err-clause-found
returns-in-Err-clause-found g c = λ image t.
    let inv = c.chain.invariant in
    index_stops c.in-Err.fault (blocks_in image) c.args.ring c.args.taken.now c.chain.taken c.read_names_at.new.taken c.args.tree c.args.first c.chain.at c.chain.places.items c.chain.names.items c.read_names_at.new.names.items
    (inv.leads image t) inv.places inv.marks inv.follows (c.in-Err.ensures.found image (tells_on _ _ image inv.marked.read t)) c.in-Err.ensures.tried

pub returns-then-next-eq0-clause-places : goal.returns-then-next-eq0-clause-places
returns-then-next-eq0-clause-places g c =
    let inv = c.chain.invariant in
    let claimed = c.in-Ok.ensures.claimed in
    let placed : c.new.result ≡ c.chain.places.items ++ c.chain.at ∷ [] = c.new.ensures ∙ c.in-Ok-push.ensures.items in (
      subst (AreUnmarked c.args.ring c.args.taken.now) (sym placed) (unmarked_more c.args.ring c.args.taken.now c.chain.places.items c.chain.at inv.places (subst (λ w. IsUnmarked c.args.ring w c.chain.at) inv.marks claimed.0)),
      marks_more c.args.taken.now c.chain.taken c.read_names_at.new.taken c.chain.places.items c.chain.at inv.marks claimed.1 ∙ ap (mark_blocks c.args.taken.now) (sym placed),
      (let n = ap length placed in omega (arith, length-append c.chain.places.items (c.chain.at ∷ []))),
    )

pub returns-then-next-eq0-clause-found : goal.returns-then-next-eq0-clause-found
returns-then-next-eq0-clause-found g c = λ image t.
    let inv = c.chain.invariant in
    let on = c.in-Ok.ensures.found image (tells_on _ _ image inv.marked.read t) in
    let placed : c.new.result ≡ c.chain.places.items ++ c.chain.at ∷ [] = c.new.ensures ∙ c.in-Ok-push.ensures.items in
    let led = leads_more (blocks_in image) c.args.tree c.args.first c.chain.at c.in-Ok.next c.chain.places.items c.chain.names.items c.read_names_at.new.names.items on.0 (inv.leads image t) on.1 on.2 in
    subst (λ n. Leads (blocks_in image) c.args.tree c.args.first n c.new.result c.new-then-next-eq0.result) c.if-next-eq0.true
    (subst (λ w. Leads (blocks_in image) c.args.tree c.args.first c.in-Ok.next w c.new-then-next-eq0.result) (sym placed)
    (subst (λ w. Leads (blocks_in image) c.args.tree c.args.first c.in-Ok.next (c.chain.places.items ++ c.chain.at ∷ []) w) (sym c.new-then-next-eq0.ensures) led))

pub chain-preserved : goal.chain-preserved
chain-preserved g c =
    let inv = c.chain.invariant in
    let claimed = c.in-Ok.ensures.claimed in
    let placed : c.push.new.self.items ≡ c.chain.places.items ++ c.chain.at ∷ [] = c.in-Ok-push.ensures.items in
    record {
      places = subst (AreUnmarked c.args.ring c.args.taken.now) (sym placed) (unmarked_more c.args.ring c.args.taken.now c.chain.places.items c.chain.at inv.places (subst (λ w. IsUnmarked c.args.ring w c.chain.at) inv.marks claimed.0));
      marks = marks_more c.args.taken.now c.chain.taken c.read_names_at.new.taken c.chain.places.items c.chain.at inv.marks claimed.1 ∙ ap (mark_blocks c.args.taken.now) (sym placed);
      follows = λ e. absurd (c.if-next-eq0.false e);
      leads = λ image t.
          let on = c.in-Ok.ensures.found image (tells_on _ _ image inv.marked.read t) in
          subst (λ w. Leads (blocks_in image) c.args.tree c.args.first c.in-Ok.next w c.read_names_at.new.names.items) (sym placed)
          (leads_more (blocks_in image) c.args.tree c.args.first c.chain.at c.in-Ok.next c.chain.places.items c.chain.names.items c.read_names_at.new.names.items on.0 (inv.leads image t) on.1 on.2);
      marked = reads_then _ _ _ _ _ _ true inv.marked c.in-Ok.ensures.marked;
    }
