use Rattle.std.proofs.Common.{rules, ◌≡◌, ℕ, ◌-◌, List, length, take, drop, replicate, true, sym, ap, ◌∙◌, arith, length-drop}
use Rattle.std.proofs.lemmas.List.{take_rest}
use Rattle.fx_base.proofs.Bytes.{IsBytes}
use Rattle.fx_super.proofs.Lists.{read_spells, read_fits, read_is_listed, listed_unused}
use Rattle.fx_super.proofs.layers.LayerList.read.Goals as goal

rest_is : (dst : List ℕ) (count : ℕ) → length dst ≡ 32 → take (32 - count) (drop count dst) ≡ drop count dst
rest_is dst count len = ap (λ (n : ℕ). take (n - count) (drop count dst)) (sym len) ∙ take_rest dst count

-- what the test says of the places from the count on
abbrev AreZero : List ℕ → Type 0
AreZero xs = xs ≡ replicate (length xs) 0

zeros_are : (dst : List ℕ) (count : ℕ) → length dst ≡ 32 → AreZero (take (32 - count) (drop count dst)) → drop count dst ≡ replicate (32 - count) 0
zeros_are dst count len zero =
    let same = rest_is dst count len in
    sym same ∙ zero ∙ ap (λ (n : ℕ). replicate n 0) (ap length same ∙ omega (arith, length-drop count dst))

are_zeros : (dst : List ℕ) (count : ℕ) → length dst ≡ 32 → drop count dst ≡ replicate (32 - count) 0 → AreZero (take (32 - count) (drop count dst))
are_zeros dst count len zero =
    let same = rest_is dst count len in
    same ∙ zero ∙ ap (λ (n : ℕ). replicate n 0) (sym (ap length same ∙ omega (arith, length-drop count dst)))

pub returns : goal.returns
returns c =
    let fits : IsBytes c.args.bytes.now = λ i. omega (arith, c.type_inv.bytes i) in
    let len : length c.read_u32_into.new.dst ≡ 32 = search rules in
    let spells = read_spells c.args.bytes.now c.read_u32_into.new.dst (omega (arith, len)) fits c.read_u32_into.ensures in
    read_is_listed c.args.bytes.now c.read_u32_into.new.dst c.args.count c.if-count-gt-LAYERS.false len (read_fits c.args.bytes.now c.read_u32_into.new.dst fits c.read_u32_into.ensures) spells (zeros_are c.read_u32_into.new.dst c.args.count len (c.are_zero.ensures.0 (search rules)))

pub returns-then-not-are_zero : goal.returns-then-not-are_zero
returns-then-not-are_zero c = λ list h.
    let fits : IsBytes c.args.bytes.now = λ i. omega (arith, c.type_inv.bytes i) in
    let len : length c.read_u32_into.new.dst ≡ 32 = search rules in
    let spells = read_spells c.args.bytes.now c.read_u32_into.new.dst (omega (arith, len)) fits c.read_u32_into.ensures in
    let unused = listed_unused c.args.bytes.now c.read_u32_into.new.dst c.args.count list len (read_fits c.args.bytes.now c.read_u32_into.new.dst fits c.read_u32_into.ensures) spells h in
    let yes : c.are_zero.result ≡ true = c.are_zero.ensures.1 (are_zeros c.read_u32_into.new.dst c.args.count len unused) in
    cc
