use Rattle.client_model.proofs.asking_clients_show_what_the_server_has.Goals as goal

pub returns : goal.returns
returns c = record {
  subs = λ c id name params w. record { view = w.view; awaited = w.awaited };
  unsubs = λ c id w. record { view = w.view; awaited = w.awaited };
  texts = λ c text w. record { view = w.view; awaited = w.awaited };
}
