-- Free blocks become layer blocks again, and stand before a chain of these.
use Rattle.std.proofs.Common.{◌≡◌, ℕ, ◌+◌, ◌<◌, List, length, get_or, set, sym, ◌∙◌, arith, length-set}
use Rattle.fx_alloc.specs.declared.uses.Use.{Use}
use Rattle.fx_alloc.specs.declared.uses.Use.TheVariants.{System, Free, Layer}
use Rattle.fx_alloc.specs.declared.chain.Chain.{Chain}
use Rattle.fx_alloc.specs.Uses.{is_free, is_layer, blocks_from}
use Rattle.fx_alloc.specs.Layers.{ChainsUp}
use Rattle.fx_alloc.proofs.UseLists.{moved, within, AreUsed-kept, AreUsed-links, AreUsed-head}

pub ChainsUp-one : (uses : List Use) (links : List ℕ) (chain : Chain) (b : ℕ) → length links ≡ length uses → get_or uses b System ≡ Free
    → ChainsUp uses (set uses b Layer) links (set links b chain.head) chain (record { head = b; len = chain.len + 1 })
ChainsUp-one uses links chain b linked e = record {
  free = omega (arith, moved is_free uses b Free Layer on_disk e);
  layers = omega (arith, moved is_layer uses b Free Layer on_disk e);
  chain = λ a. AreUsed-head Layer uses links b chain.head chain.len on_disk (omega (arith, linked, on_disk)) (λ x. layer_free (sym x ∙ e)) a;
  others = λ u head n ne a. AreUsed-kept u Layer uses b (blocks_from (set links b chain.head) head n) (λ x. ne (sym x ∙ e)) (AreUsed-links u uses links b chain.head head n (λ x. ne (sym x ∙ e)) a);
  uses_len = length-set uses b Layer;
  links_len = length-set links b chain.head;
}
  where
    on_disk : b < length uses
    on_disk = within uses b Free e (λ x. cc)

    layer_free : Layer ≡ Free → ⊥
    layer_free x = cc

pub ChainsUp-then : {uses mid after : List Use} {links between later : List ℕ} {old new last : Chain} → ChainsUp uses mid links between old new → ChainsUp mid after between later new last → ChainsUp uses after links later old last
ChainsUp-then a b = record {
  free = omega (arith, a.free, b.free);
  layers = omega (arith, a.layers, b.layers);
  chain = λ x. b.chain (a.chain x);
  others = λ u head n ne x. b.others u head n ne (a.others u head n ne x);
  uses_len = b.uses_len ∙ a.uses_len;
  links_len = b.links_len ∙ a.links_len;
}
