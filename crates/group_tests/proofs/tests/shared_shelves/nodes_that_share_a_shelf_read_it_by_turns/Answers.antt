use denote.Param.Send.{sendable}
use Rattle.group_tests.proofs.PutReceipts.{put_send, put_sync}
use Rattle.group_tests.proofs.tests.shared_shelves.nodes_that_share_a_shelf_read_it_by_turns.Goals as goal

pub assert_shared-requires-send-U : goal.assert_shared-requires-send-U
assert_shared-requires-send-U g c κs = let put = put_send in search sendable depth 30

pub assert_shared-requires-sync-U : goal.assert_shared-requires-sync-U
assert_shared-requires-sync-U g c κs = let put = put_sync in search sendable depth 30
