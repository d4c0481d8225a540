-- Blocks, attributes and graves: where nothing is amiss with them.
use Rattle.std.proofs.Common.{◌≡◌, ◌⊎◌, inl, inr, ℕ, ◌+◌, ◌*◌, ◌<◌, ◌≤◌, refl, sym, ap, ◌∙◌, arith}
use Rattle.std.specs.Prelude.{Option, Some, None}
use Rattle.std.proofs.lemmas.Bool.{cases_lt}
use Rattle.fx_item.specs.Item.{ObjectKey, GraveKey, PlainValue, GoneValue, DirectoryValue, FileValue, AttributeValue, ChildValue, WaitingValue, ExtentValue, TakenValue}
use Rattle.fx_base.specs.declared.block.TheConstants.{BLOCK_BYTES}
use Rattle.fx_plain.specs.declared.kind.Kind.TheVariants.{Dir, File}
use Rattle.fx_namespace.specs.Nodes.{NodeId, root_node, told_kind}
use Rattle.fx_namespace.specs.Wrong.{IsLeastWrong, IsWrongAt}
use Rattle.fx_contents.specs.Points.{Points, device_block, named, value_under}
use Rattle.fx_contents.specs.Standing.{AreOnDisk, AreWithin, HasObject, IsInFile}
use Rattle.fx_contents.specs.Amiss.{IsAmissAt, IsLeastAmiss, NamesAmiss, WaitingRoot, EmptyGrave, AttributeOfNone, BlockOutside, BlockOffDisk}

-- what holds no value is None
pub none_at : {A : Type 0} (o : Option A) → ((v : A) → o ≡ Some v → ⊥) → o ≡ None
none_at None h = refl
none_at (Some v) h = absurd (h v refl)

module _ (m : Points) (store id : ℕ) where
  has_object : ((HasObject m store id → ⊥) → ⊥) → HasObject m store id
  has_object not_none = by (value_under m (ObjectKey store id)) refl where
    nothing : told_kind (value_under m (ObjectKey store id)) ≡ None → HasObject m store id
    nothing e = absurd (not_none (λ x. let q : None ≡ Some x.0 = sym e ∙ x.1 in cc))

    by : (o : Option PlainValue) → value_under m (ObjectKey store id) ≡ o → HasObject m store id
    by None e = nothing (ap told_kind e)
    by (Some DirectoryValue) e = (Dir, ap told_kind e)
    by (Some (FileValue len)) e = (File, ap told_kind e)
    by (Some GoneValue) e = nothing (ap told_kind e)
    by (Some (AttributeValue text)) e = nothing (ap told_kind e)
    by (Some (ChildValue s i)) e = nothing (ap told_kind e)
    by (Some WaitingValue) e = nothing (ap told_kind e)
    by (Some (ExtentValue block sums)) e = nothing (ap told_kind e)
    by (Some TakenValue) e = nothing (ap told_kind e)

  is_in_file : (n : ℕ) → ((IsInFile m store id n → ⊥) → ⊥) → IsInFile m store id n
  is_in_file n not_none = by (value_under m (ObjectKey store id)) refl where
    length_is : (len : ℕ) → value_under m (ObjectKey store id) ≡ Some (FileValue len)
        → (n * BLOCK_BYTES < len) ⊎ (len ≤ n * BLOCK_BYTES) → IsInFile m store id n
    length_is len e (inl h) = (len, e, h)
    length_is len e (inr h) = absurd (not_none (λ x.
        let q : FileValue len ≡ FileValue x.0 = cc (sym e ∙ x.1) in
        let l : len ≡ x.0 = cc q in omega (arith, l, h, x.2)))

    no_file : (o : Option PlainValue) → value_under m (ObjectKey store id) ≡ o → ((len : ℕ) → o ≡ Some (FileValue len) → ⊥) → IsInFile m store id n
    no_file o e ne = absurd (not_none (λ x. ne x.0 (sym e ∙ x.1)))

    by : (o : Option PlainValue) → value_under m (ObjectKey store id) ≡ o → IsInFile m store id n
    by (Some (FileValue len)) e = length_is len e (cases_lt (n * BLOCK_BYTES) len)
    by None e = no_file None e (λ len q. cc)
    by (Some DirectoryValue) e = no_file (Some DirectoryValue) e (λ len q. cc)
    by (Some GoneValue) e = no_file (Some GoneValue) e (λ len q. cc)
    by (Some (AttributeValue text)) e = no_file (Some (AttributeValue text)) e (λ len q. cc)
    by (Some (ChildValue s i)) e = no_file (Some (ChildValue s i)) e (λ len q. cc)
    by (Some WaitingValue) e = no_file (Some WaitingValue) e (λ len q. cc)
    by (Some (ExtentValue block sums)) e = no_file (Some (ExtentValue block sums)) e (λ len q. cc)
    by (Some TakenValue) e = no_file (Some TakenValue) e (λ len q. cc)

module _ (ring disk : ℕ) (m : Points) (fine : (node : NodeId) → IsAmissAt ring disk m node → ⊥) where
  pub all_within : AreWithin m
  all_within = record {
    root = none_at (value_under m (GraveKey 0 0)) (λ v e. fine root_node (WaitingRoot v refl e));
    extent = λ store id n entry e. is_in_file m store id n (λ lacks. fine (record { store = store; id = id }) (BlockOutside n entry e lacks));
    grave = λ store id value e. has_object m store id (λ lacks. fine (record { store = store; id = id }) (EmptyGrave value e lacks));
    attribute = λ store id name value e. has_object m store id (λ lacks. fine (record { store = store; id = id }) (AttributeOfNone name value e lacks));
  }

  pub all_on_disk : AreOnDisk ring disk m
  all_on_disk = record { block = λ node n block e. (at_least node n block e (cases_lt block (ring + 2)), below node n block e (cases_lt block disk)) } where
    at_least : (node : NodeId) (n block : ℕ) → device_block m node n ≡ Some block → (block < ring + 2) ⊎ (ring + 2 ≤ block) → ring + 2 ≤ block
    at_least node n block e (inr h) = h
    at_least node n block e (inl h) = absurd (fine node (BlockOffDisk n block e (inl h)))

    below : (node : NodeId) (n block : ℕ) → device_block m node n ≡ Some block → (block < disk) ⊎ (disk ≤ block) → block < disk
    below node n block e (inl h) = h
    below node n block e (inr h) = absurd (fine node (BlockOffDisk n block e (inr h)))

pub names_amiss : (ring disk : ℕ) (m : Points) (node : NodeId) → AreWithin m → AreOnDisk ring disk m
    → IsAmissAt ring disk m node → IsWrongAt (named m) node
names_amiss ring disk m node w d (NamesAmiss wrong) = wrong
names_amiss ring disk m node w d (WaitingRoot value is e) = absurd (let q : None ≡ Some value = sym w.root ∙ e in cc)
names_amiss ring disk m node w d (EmptyGrave value e lacks) = absurd (lacks (w.grave node.store node.id value e))
names_amiss ring disk m node w d (AttributeOfNone name value e lacks) = absurd (lacks (w.attribute node.store node.id name value e))
names_amiss ring disk m node w d (BlockOutside n entry e lacks) = absurd (lacks (w.extent node.store node.id n entry e))
names_amiss ring disk m node w d (BlockOffDisk n block e off) = absurd (let x = d.block node n block e in
    elim off [ inl h ↦ omega (arith, h, x.0) | inr h ↦ omega (arith, h, x.1) ])

pub least_names : (ring disk : ℕ) (m : Points) (node : NodeId) → AreWithin m → AreOnDisk ring disk m
    → IsLeastAmiss ring disk m node → IsLeastWrong (named m) node
least_names ring disk m node w d l = record {
  wrong = names_amiss ring disk m node w d l.amiss;
  least = λ other wrong. l.least other (NamesAmiss wrong);
}
