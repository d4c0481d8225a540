use Rattle.fxfs.proofs.shell.run_line.Goals as goal

pub returns-in_default-clause-ends : goal.returns-in_default-clause-ends
returns-in_default-clause-ends g c opening opens = c.out_of_memory.ensures.ends opening c.args.line.now opens (λ e. cc (c.in_default.ensures.sync e))
