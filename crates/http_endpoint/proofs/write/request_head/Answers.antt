use Rattle.std.proofs.Common.{◌++◌, refl}
use Rattle.std.specs.Prelude.{codes}
use Rattle.http_endpoint.specs.Texts.{type_line, action_line, last_lines, port_text}
use Rattle.http_endpoint.proofs.WriteFacts.{with-piece}
use Rattle.http_endpoint.proofs.write.request_head.Goals as goal

pub returns : goal.returns
returns c =
    let target = c.args.target.now in
    let t0 = codes "POST " in
    let t1 = t0 ++ target.path in
    let t2 = t1 ++ codes " HTTP/1.1\r\nHost: " in
    let t3 = t2 ++ target.host in
    let t4 = t3 ++ port_text target.port in
    let t5 = t4 ++ codes "\r\n" in
    let t6 = t5 ++ type_line c.args.media in
    let t7 = t6 ++ action_line c.args.media in
    with-piece _ _ t7 _ (last_lines c.args.len)
    (with-piece _ _ t6 _ (action_line c.args.media)
    (with-piece _ _ t5 _ (type_line c.args.media)
    (with-piece _ _ t4 _ (codes "\r\n")
    (with-piece _ _ t3 _ (port_text target.port)
    (with-piece _ _ t2 _ target.host
    (with-piece _ _ t1 _ (codes " HTTP/1.1\r\nHost: ")
    (with-piece _ _ t0 _ target.path c.in_ok-head.ensures c.as_slice.ensures c.in_ok-push_all.ensures.ok)
    refl c.in_ok-push_all-2.ensures.ok)
    c.as_slice-2.ensures c.in_ok-push_all-3.ensures.ok)
    refl c.in_ok-push_port.ensures)
    refl c.in_ok-push_all-4.ensures.ok)
    c.type_line.ensures c.in_ok-push_all-5.ensures.ok)
    c.action_line.ensures c.in_ok-push_all-6.ensures.ok)
    refl c.in_ok-push_last_lines.ensures
