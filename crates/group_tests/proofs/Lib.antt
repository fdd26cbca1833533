mod PutReceipts
