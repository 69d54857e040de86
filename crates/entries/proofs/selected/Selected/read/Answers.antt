use Rattle.entries.proofs.selected.Selected.read.Goals as goal

pub returns : goal.returns
returns c = c.read_entry.ensures.is c.args.self.now.appid.now c.args.self.now.owned
