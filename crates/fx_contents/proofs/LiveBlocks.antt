-- The tree is read off the blocks alone that an entry names.
use Rattle.std.proofs.Common.{◌≡◌, ◌≢◌, ℕ, List, refl, sym, ap, ◌∙◌, subst, map, get_or, ◌/◌, ◌%◌}
use Rattle.std.specs.Prelude.{Option, Some, None}
use Rattle.std.specs.List.{range_with_len}
use Rattle.fx_item.specs.Item.{ObjectKey, PlainValue, GoneValue, DirectoryValue, FileValue, AttributeValue, ChildValue, WaitingValue, ExtentValue, TakenValue}
use Rattle.fx_item.specs.Overlay.{AtDeviceBlock}
use Rattle.fx_plain.specs.Node.{Attributes}
use Rattle.fx_plain.specs.Tree.{Tree}
use Rattle.fx_base.specs.declared.block.TheConstants.{BLOCK_BYTES}
use Rattle.fx_namespace.specs.Nodes.{NodeId}
use Rattle.fx_namespace.specs.Trees.{IsTreeOf}
use Rattle.fx_contents.specs.Allocated.{AreAllocated}
use Rattle.fx_contents.specs.Points.{AgreeOnLive, Points, named, device_block}
use Rattle.fx_contents.specs.Files.{byte_in, byte_at, file_of}
use Rattle.fx_contents.specs.Standing.{contents_by, holdings_of, StandForTree, AreClear}

-- contents that agree on the blocks of one file
module _ (f g : ℕ → List ℕ) (held : ℕ → Option ℕ) (agree : (n block : ℕ) → held n ≡ Some block → f block ≡ g block) where
  same_in : (n j : ℕ) (o : Option ℕ) → held n ≡ o → byte_in f o j ≡ byte_in g o j
  same_in n j None e = refl
  same_in n j (Some block) e = ap (λ bytes. get_or bytes j 0) (agree n block e)

  pub same_at : (i : ℕ) → byte_at f held i ≡ byte_at g held i
  same_at i = same_in (i / BLOCK_BYTES) (i % BLOCK_BYTES) (held (i / BLOCK_BYTES)) refl

  same_file : (len : ℕ) → file_of f len held ≡ file_of g len held
  unfolding file_of
  same_file len = λ i. record {
    bytes = map (λ k. same_at k i) (range_with_len 0 len);
    held = (file_of f len held).held;
  }

  pub same_held : (value : Option PlainValue) → contents_by f value held ≡ contents_by g value held
  same_held (Some (FileValue len)) = same_file len
  same_held (Some GoneValue) = refl
  same_held (Some DirectoryValue) = refl
  same_held (Some (AttributeValue text)) = refl
  same_held (Some (ChildValue store id)) = refl
  same_held (Some WaitingValue) = refl
  same_held (Some (ExtentValue block sums)) = refl
  same_held (Some TakenValue) = refl
  same_held None = refl

module _ (m : Points) (f g : ℕ → List ℕ) (agree : AgreeOnLive m f g) where
  same_holdings : (a : NodeId → Attributes) → holdings_of m f a ≡ holdings_of m g a
  same_holdings a = λ i. record {
    contents = λ node. same_held f g (device_block m node) (agree node) (named m (ObjectKey node.store node.id)) i;
    attributes = a;
  }

  pub stands_on : (t : Tree) → StandForTree m f t → StandForTree m g t
  stands_on t s = record {
    stands = s.stands;
    within = s.within;
    attributes = s.attributes;
    attributes_are = s.attributes_are;
    tree_is = subst (λ h. IsTreeOf (named m) h t) (same_holdings s.attributes) s.tree_is;
  }

  pub clear_on : AreClear m f → AreClear m g
  clear_on c = record { zero = λ node len i e h. sym (same_at f g (device_block m node) (agree node) i) ∙ c.zero node len i e h }

pub agree_back : (m : Points) (f g : ℕ → List ℕ) → AgreeOnLive m f g → AgreeOnLive m g f
agree_back m f g agree = λ node n block e. sym (agree node n block e)

-- a block that no entry names
pub other_block : (m : Points) (f g : ℕ → List ℕ) (t : Tree) (b : ℕ)
    → ((node : NodeId) (n : ℕ) → device_block m node n ≢ Some b) → ((x : ℕ) → x ≢ b → f x ≡ g x)
    → StandForTree m f t → StandForTree m g t
other_block m f g t b unnamed same = stands_on m f g (λ node n block e. same block (λ is. unnamed node n (e ∙ ap Some is))) t

-- a block that the allocator has not taken
pub free_block : (m : Points) (f g : ℕ → List ℕ) (t : Tree) (b : ℕ) → AreAllocated m → m (AtDeviceBlock b) ≡ None
    → ((x : ℕ) → x ≢ b → f x ≡ g x) → StandForTree m f t → StandForTree m g t
free_block m f g t b a free = other_block m f g t b (λ node n e.
    let x = a.taken node n b e in
    let q : None ≡ Some x.0 = sym free ∙ x.1 in cc)
