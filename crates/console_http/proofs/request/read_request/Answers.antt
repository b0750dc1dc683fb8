use Rattle.console_http.proofs.request.read_request.Goals as goal

pub read_coming-requires-clause-known : goal.read_coming-requires-clause-known
read_coming-requires-clause-known c = c.new.ensures c.args.bytes.now
