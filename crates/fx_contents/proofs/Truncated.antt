-- The tree after a truncation.
use Rattle.std.proofs.Common.{◌≡◌, ◌⊎◌, inl, inr, ℕ, ◌*◌, ◌<◌, ◌≤◌, List, sym, ap, ◌∙◌, subst}
use Rattle.std.specs.Prelude.{Some, None}
use Rattle.std.specs.FinMap.{insert}
use Rattle.std.proofs.lemmas.Bool.{cases_lt}
use Rattle.fx_item.specs.Overlay.{AtFileBlock, Entry}
use Rattle.fx_plain.specs.Node.{File}
use Rattle.fx_plain.specs.Tree.{Tree}
use Rattle.fx_base.specs.declared.block.TheConstants.{BLOCK_BYTES}
use Rattle.fx_namespace.specs.Nodes.{NodeId, node_at}
use Rattle.fx_contents.specs.Points.{Points, named, block_in, device_block}
use Rattle.fx_contents.specs.Files.{byte_at, file_of}
use Rattle.fx_contents.specs.Standing.{AreWithin, StandForTree, AreClear}
use Rattle.fx_contents.specs.Rewrites.{IsRewriting}
use Rattle.fx_contents.specs.Cuts.{truncated, IsFront, IsTruncated, IsCutting}
use Rattle.fx_contents.proofs.CutFile
use Rattle.fx_contents.proofs.FileRewritten.{inside_block, stands_after, clear_after, file_there}

module _ (m n : Points) (f g : ℕ → List ℕ) (node : NodeId) (size len : ℕ) (w : IsCutting m n f g node size len) where
  inside_after : (k : ℕ) (entry : Entry) → n (AtFileBlock node.store node.id k) ≡ Some entry → k * BLOCK_BYTES < size
  inside_after k entry e = elim (cases_lt (k * BLOCK_BYTES) size) [
    | inl h ↦ h
    | inr h ↦ absurd (let q : None ≡ Some entry = sym (w.gone k h) ∙ e in cc)
  ]

  rewriting : IsRewriting m n f g node len size
  rewriting = record { before = w.before; after = w.after; inside = inside_after; others = w.others; same = λ other k block ne e. w.same other k block e (inl ne) }

  module _ (within : AreWithin m) (clear : len ≤ size → AreClear m f) where
    gone_block : (k : ℕ) → size ≤ k * BLOCK_BYTES → device_block n node k ≡ None
    gone_block k h = ap block_in (w.gone k h)

    kept_block : (k : ℕ) → k * BLOCK_BYTES < size → (IsFront size len k) ⊎ (device_block m node k ≡ None) → device_block n node k ≡ device_block m node k
    kept_block k h c = ap block_in (w.kept k h c)

    file_is : file_of g size (device_block n node) ≡ truncated size (file_of f len (device_block m node))
    file_is = CutFile.file_cut f g len (device_block m node) (device_block n node) size gone_block w.edge kept_block (λ k block c e. w.same node k block e (inr c)) (inside_block m node len within w.before) (λ l i h. (clear l).zero node len i w.before h)

    file_clear : (i : ℕ) → size ≤ i → byte_at g (device_block n node) i ≡ 0
    file_clear = CutFile.new_clear f g len (device_block m node) (device_block n node) size gone_block w.edge kept_block (λ k block c e. w.same node k block e (inr c)) (inside_block m node len within w.before) (λ l i h. (clear l).zero node len i w.before h)

  pub cut_clear : AreWithin m → AreClear m f → AreClear n g
  cut_clear within clear = clear_after m n f g node len size rewriting clear (file_clear within (λ l. clear))

  module _ (t : Tree) (s : StandForTree m f t) (clear : len ≤ size → AreClear m f) (path : List (List ℕ)) (way : node_at (named m) path ≡ Some node) where
    cut_stands : StandForTree n g (insert t path (File (truncated size (file_of f len (device_block m node))) (s.attributes node)))
    cut_stands = subst (λ c. StandForTree n g (insert t path (File c (s.attributes node)))) (file_is s.within clear) (stands_after m n f g node len size rewriting t s path way)

    -- the tree with the file truncated
    pub cut_done : (u : Tree) → IsTruncated t path size u → StandForTree n g u
    cut_done u d =
        let e : File d.contents d.attributes ≡ File (file_of f len (device_block m node)) (s.attributes node) = cc (sym d.file ∙ file_there m n f g node len size rewriting t s path way) in
        let c : d.contents ≡ file_of f len (device_block m node) = cc e in
        let a : d.attributes ≡ s.attributes node = cc e in
        subst (StandForTree n g) ((λ i. insert t path (File (truncated size (sym c i)) (sym a i))) ∙ sym d.inserted) cut_stands
