use Rattle.node_store.proofs.windows.keeps_window.Goals as goal

pub returns : goal.returns
returns c = (
  λ e. record { window = c.has_window.ensures.0 c.if-not-has_window.false; near = c.has_near.ensures.0 e },
  λ kept. c.has_near.ensures.1 kept.near,
)
