-- Layers are read from their own blocks.
use Rattle.std.proofs.Common.{◌≡◌, ℕ, suc, Bool, List, [], ◌∷◌, ◌++◌, refl, sym, ap, subst, ◌∙◌, arith, append-nil, Contains}
use Rattle.std.specs.Prelude.{Ok}
use Rattle.std.proofs.lemmas.List.Elements.{All-nil, All-cons, All-head, All-tail, Contains-append_left, Contains-append_right}
use Rattle.std.proofs.lemmas.List.Concat.{flat_map-append}
use Rattle.fx_layfile.specs.Block.{IsIndexBlock, IsDataBlock}
use Rattle.fx_layfile.specs.Layer.{BlockBytes, IndexPart, DataPart, IsIndexChain, index_places, data_places, first_part, AreData, IsWholeLayer, mark_block, mark_blocks}
use Rattle.fx_layfile.specs.Reading.{IsSaid, PlainLayer}
use Rattle.fx_uses.specs.Layers.{ReadsNamed}
use Rattle.fx_layered.specs.Layers.{LayerRead, AreWhole, layer_sense, unmarked, places_in}

first_here : (x : ℕ) (xs : List ℕ) → Contains (x ∷ xs) x
first_here x xs = (0, omega arith, refl)

later_here : (x y : ℕ) (xs : List ℕ) → Contains xs y → Contains (x ∷ xs) y
later_here x y xs h = let lt = h.1 in (suc h.0, omega (arith, lt), h.2)

module _ (f g : BlockBytes) where
  abbrev Same : List ℕ → Type 0
  Same places = (b : ℕ) → Contains places b → f b ≡ g b

  chain_alike : (tree : ℕ) (parts : List IndexPart) (stop : ℕ) → Same (index_places parts) → IsIndexChain f tree parts stop → IsIndexChain g tree parts stop
  chain_alike tree [] stop same h = tt
  chain_alike tree (part ∷ rest) stop same h = (
    subst (λ (bytes : List ℕ). IsIndexBlock bytes tree (first_part rest stop) part.names) (same part.at (first_here part.at (index_places rest))) h.0,
    chain_alike tree rest stop (λ b is. same b (later_here part.at b (index_places rest) is)) h.1,
  )

  data_alike : (tree : ℕ) (leaves : List DataPart) → Same (data_places leaves) → AreData f tree leaves → AreData g tree leaves
  data_alike tree [] same h = All-nil (λ (leaf : DataPart). IsDataBlock (g leaf.at) tree leaf.items)
  data_alike tree (leaf ∷ rest) same h = All-cons (λ (l : DataPart). IsDataBlock (g l.at) tree l.items) leaf rest
      (subst (λ (bytes : List ℕ). IsDataBlock bytes tree leaf.items) (same leaf.at (first_here leaf.at (data_places rest))) (All-head (λ (l : DataPart). IsDataBlock (f l.at) tree l.items) leaf rest h))
      (data_alike tree rest (λ b is. same b (later_here leaf.at b (data_places rest) is)) (All-tail (λ (l : DataPart). IsDataBlock (f l.at) tree l.items) leaf rest h))

  module _ (ring tree : ℕ) where
    one_alike : (marks : List Bool) (layer : LayerRead) → Same layer.places → IsWholeLayer f ring marks tree layer.first layer.places layer.items → IsWholeLayer g ring marks tree layer.first layer.places layer.items
    one_alike marks layer same h =
        let in_parts : Same (index_places h.parts) = λ b is. same b (subst (λ (xs : List ℕ). Contains xs b) (sym h.places_are) (Contains-append_left (index_places h.parts) (data_places h.leaves) b is)) in
        let in_leaves : Same (data_places h.leaves) = λ b is. same b (subst (λ (xs : List ℕ). Contains xs b) (sym h.places_are) (Contains-append_right (index_places h.parts) (data_places h.leaves) b is)) in
        record {
          parts = h.parts;
          leaves = h.leaves;
          stored = record {
            index = record {
              begins = h.stored.index.begins;
              some = h.stored.index.some;
              chain = chain_alike tree h.parts 0 in_parts h.stored.index.chain;
              unmarked = h.stored.index.unmarked;
            };
            named = h.stored.named;
            leaves_are = data_alike tree h.leaves in_leaves h.stored.leaves_are;
            unmarked = h.stored.unmarked;
          };
          places_are = h.places_are;
          items_are = h.items_are;
          ordered = h.ordered;
        }

    whole_alike : (marks : List Bool) (layers : List LayerRead) → Same (places_in layers) → AreWhole f ring marks tree layers → AreWhole g ring marks tree layers
    whole_alike marks [] same h = tt
    whole_alike marks (layer ∷ rest) same h = (
      one_alike marks layer (λ b is. same b (Contains-append_left layer.places (places_in rest) b is)) h.0,
      whole_alike (mark_blocks marks layer.places) rest (λ b is. same b (Contains-append_right layer.places (places_in rest) b is)) h.1,
    )

pub places_both : (xs ys : List LayerRead) → places_in (xs ++ ys) ≡ places_in xs ++ places_in ys
places_both xs ys = flat_map-append (λ (layer : LayerRead). layer.places) xs ys

pub reads_named : (ring disk : ℕ) → ReadsNamed (layer_sense ring disk)
reads_named ring disk f g firsts places said same h =
    let both : places ≡ places_in said.objects ++ places_in said.allocs = h.places_are ∙ places_both said.objects said.allocs in
    record {
      firsts_are = h.firsts_are;
      places_are = h.places_are;
      objects = whole_alike f g ring 1 (unmarked disk) said.objects
          (λ b is. same b (subst (λ (xs : List ℕ). Contains xs b) (sym both) (Contains-append_left (places_in said.objects) (places_in said.allocs) b is))) h.objects;
      allocs = whole_alike f g ring 2 (mark_blocks (unmarked disk) (places_in said.objects)) said.allocs
          (λ b is. same b (subst (λ (xs : List ℕ). Contains xs b) (sym both) (Contains-append_right (places_in said.objects) (places_in said.allocs) b is))) h.allocs;
    }

-- ---- one more layer

pub marked_both : (marks : List Bool) (xs ys : List ℕ) → mark_blocks marks (xs ++ ys) ≡ mark_blocks (mark_blocks marks xs) ys
marked_both marks [] ys = refl
marked_both marks (x ∷ xs) ys = marked_both (mark_block marks x) xs ys

pub marked_on : (marks : List Bool) (layers : List LayerRead) (layer : LayerRead) → mark_blocks (mark_blocks marks (places_in layers)) layer.places ≡ mark_blocks marks (places_in (layers ++ layer ∷ []))
marked_on marks layers layer =
    sym (marked_both marks (places_in layers) layer.places)
    ∙ ap (λ (w : List ℕ). mark_blocks marks (places_in layers ++ w)) (sym (append-nil layer.places))
    ∙ ap (mark_blocks marks) (sym (places_both layers (layer ∷ [])))

pub whole_on : (blocks : BlockBytes) (ring : ℕ) (marks : List Bool) (tree first : ℕ) (layers : List LayerRead) (layer : PlainLayer) → AreWhole blocks ring marks tree layers → IsSaid blocks ring (mark_blocks marks (places_in layers)) tree first (Ok layer)
    → AreWhole blocks ring marks tree (layers ++ record { first = first; places = layer.blocks; items = layer.items } ∷ [])
whole_on blocks ring marks tree first [] layer h said = (said, tt)
whole_on blocks ring marks tree first (x ∷ xs) layer h said = (
  h.0,
  whole_on blocks ring (mark_blocks marks x.places) tree first xs layer h.1
      (subst (λ (m : List Bool). IsSaid blocks ring m tree first (Ok layer)) (marked_both marks x.places (places_in xs)) said),
)
