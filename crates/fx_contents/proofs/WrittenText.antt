-- The tree after a text is written.
use Rattle.std.proofs.Common.{◌≡◌, inl, inr, ℕ, ◌+◌, ◌*◌, ◌<◌, false, List, length, max, sym, ap, ◌∙◌, subst, arith, []}
use Rattle.std.specs.Prelude.{Some}
use Rattle.std.specs.FinMap.{insert}
use Rattle.std.proofs.lemmas.Bool.{cases_Bool}
use Rattle.fx_item.specs.Overlay.{AtFileBlock, Entry}
use Rattle.fx_plain.specs.Bare.{IsWritten}
use Rattle.fx_plain.specs.Node.{File, written}
use Rattle.fx_plain.specs.Tree.{Tree}
use Rattle.fx_base.specs.declared.block.TheConstants.{BLOCK_BYTES}
use Rattle.fx_plain.proofs.Views.{insert_same}
use Rattle.fx_namespace.specs.Nodes.{NodeId, node_at}
use Rattle.fx_contents.specs.Points.{Points, named, block_in, device_block}
use Rattle.fx_contents.specs.Files.{file_of}
use Rattle.fx_contents.specs.Standing.{AreWithin, StandForTree, AreClear}
use Rattle.fx_contents.specs.Rewrites.{IsRewriting}
use Rattle.fx_contents.specs.Writes.{is_covered, IsWriting}
use Rattle.fx_contents.proofs.FileBytes
use Rattle.fx_contents.proofs.FileRewritten.{clear_after, file_there, inside_block, inside_file, stands_after}
use Rattle.fx_contents.proofs.WrittenFile

module _ (m n : Points) (f g : ℕ → List ℕ) (node : NodeId) (at : ℕ) (text : List ℕ) (len : ℕ)
    (w : IsWriting m n f g node at text len) (some : 0 < length text) where
  module _ (within : AreWithin m) where
    inside_after : (k : ℕ) (entry : Entry) → n (AtFileBlock node.store node.id k) ≡ Some entry → k * BLOCK_BYTES < max len (at + length text)
    inside_after k entry e = elim (cases_Bool (is_covered at text k)) [
      | inl c ↦ (let p = FileBytes.covered-parts at text k c in omega (arith, p.1))
      | inr c ↦ (let p = inside_file m node len within w.before k entry (sym (w.kept k c) ∙ e) in omega (arith, p))
    ]

    rewriting : IsRewriting m n f g node len (max len (at + length text))
    rewriting = record { before = w.before; after = w.after; inside = inside_after; others = w.others; same = λ other k block ne e. w.same other k block e (inl ne) }

  module _ (within : AreWithin m) (clear : AreClear m f) where
    kept_block : (k : ℕ) → is_covered at text k ≡ false → device_block n node k ≡ device_block m node k
    kept_block k c = ap block_in (w.kept k c)

    file_is : file_of g (max len (at + length text)) (device_block n node) ≡ written at text (file_of f len (device_block m node))
    file_is = WrittenFile.file_written f g len (device_block m node) (device_block n node) at text some w.put kept_block (λ k block c e. w.same node k block e (inr c)) (inside_block m node len within w.before) (λ i h. clear.zero node len i w.before h)

    pub write_clear : AreClear n g
    write_clear = clear_after m n f g node len (max len (at + length text)) (rewriting within) clear
        (WrittenFile.new_clear f g len (device_block m node) (device_block n node) at text some w.put kept_block (λ k block c e. w.same node k block e (inr c)) (inside_block m node len within w.before) (λ i h. clear.zero node len i w.before h))

  module _ (t : Tree) (s : StandForTree m f t) (clear : AreClear m f) (path : List (List ℕ)) (way : node_at (named m) path ≡ Some node) where
    write_stands : StandForTree n g (insert t path (File (written at text (file_of f len (device_block m node))) (s.attributes node)))
    write_stands = subst (λ c. StandForTree n g (insert t path (File c (s.attributes node)))) (file_is s.within clear) (stands_after m n f g node len (max len (at + length text)) (rewriting s.within) t s path way)

    -- the tree of the step that was done
    pub write_done : (u : Tree) → IsWritten t path at text u → StandForTree n g u
    write_done u d =
        let e : File d.contents d.attributes ≡ File (file_of f len (device_block m node)) (s.attributes node) = cc (sym d.file ∙ file_there m n f g node len (max len (at + length text)) (rewriting s.within) t s path way) in
        let c : d.contents ≡ file_of f len (device_block m node) = cc e in
        let a : d.attributes ≡ s.attributes node = cc e in
        subst (StandForTree n g) ((λ i. insert t path (File (written at text (sym c i)) (sym a i))) ∙ sym d.inserted) write_stands

-- no text: the tree stays
pub nothing_written : (m : Points) (f : ℕ → List ℕ) (t : Tree) (path : List (List ℕ)) (at : ℕ) (u : Tree) → IsWritten t path at [] u → StandForTree m f t → StandForTree m f u
nothing_written m f t path at u d s = subst (StandForTree m f) (sym (d.inserted ∙ insert_same t path (File d.contents d.attributes) d.file)) s
