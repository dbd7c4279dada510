-- What a history needs of an application.
use Rattle.app_model.specs.App.{App, method, write_rules}
use Rattle.history_model.specs.History.{Programs}

abbrev pub programs : App → Programs
programs app = record { collections = app.collections; method = λ name. method app name; rules = λ collection. write_rules app collection }
