use Rattle.std.proofs.Common.{rules, ◌≡◌, true, arith}
use Rattle.fx_jblock.proofs.Bodies.{Reads, form_found, form_tests}
use Rattle.fx_jblock.proofs.form_of.Goals as goal
use Rattle.fx_jblock.proofs.form_of.Goals.{else-read_u64-seq-via-then-read_u64-seq+then-epoch-gt0+then-is_zero+else-is_filled, else-read_u64-seq-via-then-read_u64-seq+then-epoch-gt0+else-is_zero, else-read_u64-seq-via-then-read_u64-seq+else-epoch-gt0, else-read_u64-seq-via-else-read_u64-seq}

pub returns-then-is_filled : goal.returns-then-is_filled
returns-then-is_filled c =
    let r : Reads c.args.before.now c.read_u64.result c.read_u64-epoch.result c.read_u16-used.result = record { len = c.requires; fits = λ i. omega (arith, c.type_inv.before i); first_is = c.read_u64.ensures; epoch_is = c.read_u64-epoch.ensures; epoch_fits = c.read_u64-epoch.type_inv; used_is = c.read_u16-used.ensures } in
    form_found c.args.before.now c.read_u64.result c.read_u64-epoch.result c.read_u16-used.result c.args.seq r c.if-read_u64-seq.true c.if-epoch-gt0.true (c.is_zero.ensures.0 c.if-is_zero.true) (c.is_filled.ensures.0 c.if-is_filled.true)

pub returns : goal.returns
returns c = λ e text h.
    let r : Reads c.args.before.now c.read_u64.result c.read_u64-epoch.result c.read_u16-used.result = record { len = c.requires; fits = λ i. omega (arith, c.type_inv.before i); first_is = c.read_u64.ensures; epoch_is = c.read_u64-epoch.ensures; epoch_fits = c.read_u64-epoch.type_inv; used_is = c.read_u16-used.ensures } in
    let t = form_tests c.args.before.now c.read_u64.result c.read_u64-epoch.result c.read_u16-used.result c.args.seq e text r (search rules) h in
    elim c.else-read_u64-seq.branch [
      | else-read_u64-seq-via-then-read_u64-seq+then-epoch-gt0+then-is_zero+else-is_filled w ↦ (let yes : w.is_filled.result ≡ true = w.is_filled.ensures.1 t.5 in cc)
      | else-read_u64-seq-via-then-read_u64-seq+then-epoch-gt0+else-is_zero w ↦ (let yes : w.is_zero.result ≡ true = w.is_zero.ensures.1 t.4 in cc)
      | else-read_u64-seq-via-then-read_u64-seq+else-epoch-gt0 w ↦ omega (arith, t.3)
      | else-read_u64-seq-via-else-read_u64-seq w ↦ absurd (w.if-read_u64-seq.false t.0)
    ]
