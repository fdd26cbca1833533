use denote.Param.Send.{sendable}
use Rattle.group_tests.proofs.PutReceipts.{put_send, put_sync}
use Rattle.group_tests.proofs.tests.hanging_peers.a_peer_that_hangs_costs_one_wait_and_is_asked_again.Goals as goal

pub assert_over_shelf-requires-send-U : goal.assert_over_shelf-requires-send-U
assert_over_shelf-requires-send-U g c κs = let put = put_send in search sendable depth 30

pub assert_over_shelf-requires-sync-U : goal.assert_over_shelf-requires-sync-U
assert_over_shelf-requires-sync-U g c κs = let put = put_sync in search sendable depth 30
