-- The layers that a superblock names say one thing.
use Rattle.std.proofs.Common.{◌≡◌, ℕ, Bool, List, [], ◌∷◌, refl, sym, ap, subst, ◌∙◌}
use Rattle.std.proofs.Math.Path.{fun_ext}
use Rattle.fx_disk.specs.Record.{Cell}
use Rattle.fx_item.specs.Overlay.{Point}
use Rattle.fx_contents.specs.Points.{Points}
use Rattle.fx_super.specs.Super.{Fields}
use Rattle.fx_uses.specs.Uses.{image_block}
use Rattle.fx_layfile.specs.Layer.{BlockBytes, Whole, IsWholeLayer, mark_blocks}
use Rattle.fx_layfile.proofs.Verdicts.{one_verdict}
use Rattle.fx_cuts.specs.Images.{ShowsOne}
use Rattle.fx_shown.specs.Meanings.{LayersSayOne}
use Rattle.fx_shown.proofs.OneShown.{one-shown}
use Rattle.fx_layered.specs.Layers.{LayerRead, LayersRead, LayersTell, AreWhole, firsts_in, unmarked, places_in, points_of}
use Rattle.fx_layered.specs.Gathered.{layers_meanings, layers_reading}

layer_is : (x y : LayerRead) → x.first ≡ y.first → x.places ≡ y.places → x.items ≡ y.items → x ≡ y
layer_is x y e f g = λ i. record { first = e i; places = f i; items = g i }

same_layer : (blocks : BlockBytes) (ring : ℕ) (marks : List Bool) (tree : ℕ) (x y : LayerRead) → x.first ≡ y.first → IsWholeLayer blocks ring marks tree x.first x.places x.items → IsWholeLayer blocks ring marks tree y.first y.places y.items → x ≡ y
same_layer blocks ring marks tree x y e h k =
    let one : Whole x.places x.items ≡ Whole y.places y.items =
    one_verdict blocks ring marks tree x.first (Whole x.places x.items) (Whole y.places y.items) h (subst (λ (n : ℕ). IsWholeLayer blocks ring marks tree n y.places y.items) (sym e) k) in
    layer_is x y e (cc) (cc)

same_layers : (blocks : BlockBytes) (ring : ℕ) (marks : List Bool) (tree : ℕ) (xs ys : List LayerRead) → firsts_in xs ≡ firsts_in ys → AreWhole blocks ring marks tree xs → AreWhole blocks ring marks tree ys → xs ≡ ys
same_layers blocks ring marks tree [] [] e h k = refl
same_layers blocks ring marks tree [] (y ∷ ys) e h k = let no : [] ≡ y.first ∷ firsts_in ys = e in absurd (cc)
same_layers blocks ring marks tree (x ∷ xs) [] e h k = let no : x.first ∷ firsts_in xs ≡ [] = e in absurd (cc)
same_layers blocks ring marks tree (x ∷ xs) (y ∷ ys) e h k =
    let all : x.first ∷ firsts_in xs ≡ y.first ∷ firsts_in ys = e in
    let first : x.first ≡ y.first = cc in
    let rest : firsts_in xs ≡ firsts_in ys = cc in
    let one : x ≡ y = same_layer blocks ring marks tree x y first h.0 k.0 in
    let more : xs ≡ ys = same_layers blocks ring (mark_blocks marks x.places) tree xs ys rest h.1 (subst (λ (l : LayerRead). AreWhole blocks ring (mark_blocks marks l.places) tree ys) (sym one) k.1) in
    ap (λ (l : LayerRead). l ∷ xs) one ∙ ap (λ (ls : List LayerRead). y ∷ ls) more

said_is : (s t : LayersRead) → s.objects ≡ t.objects → s.allocs ≡ t.allocs → s ≡ t
said_is s t e f = λ i. record { objects = e i; allocs = f i }

pub one_reading : (image : List (List ℕ)) (f : Fields) (p q : Points) → LayersTell image f p → LayersTell image f q → p ≡ q
one_reading image f p q h k =
    let objects : h.said.objects ≡ k.said.objects = same_layers (image_block image) f.ring (unmarked f.blocks) 1 h.said.objects k.said.objects (sym h.named.objects ∙ k.named.objects) h.lie.objects k.lie.objects in
    let allocs : h.said.allocs ≡ k.said.allocs = same_layers (image_block image) f.ring (mark_blocks (unmarked f.blocks) (places_in h.said.objects)) 2 h.said.allocs k.said.allocs (sym h.named.allocs ∙ k.named.allocs) h.lie.allocs
    (subst (λ (ls : List LayerRead). AreWhole (image_block image) f.ring (mark_blocks (unmarked f.blocks) (places_in ls)) 2 k.said.allocs) (sym objects) k.lie.allocs) in
    let said : h.said ≡ k.said = said_is h.said k.said objects allocs in
    fun_ext (λ (x : Point). h.points_are x ∙ ap (λ (l : LayersRead). points_of l x) said ∙ sym (k.points_are x))

pub layers_say_one : (sum : List ℕ → ℕ) (first_data : ℕ) → LayersSayOne (layers_reading sum first_data)
layers_say_one sum first_data image f p q h k = one_reading image f p q h k

pub shows_one : (sum : List ℕ → ℕ) (first_data : ℕ) (before : ℕ → Cell) (generation : ℕ) → ShowsOne (layers_meanings sum first_data before generation)
shows_one sum first_data before generation image a b p q ts us h k = one-shown (layers_reading sum first_data) image (layers_say_one sum first_data) a b p q ts us h k
